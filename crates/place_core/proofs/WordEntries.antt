-- What an entry does to the words of lanes, and what a lane replaced by hand makes.
use Rattle.std.proofs.Common.{◌≡◌, ℕ, ◌+◌, ◌/◌, ◌%◌, ◌^◌, ◌<◌, Bool, [], ◌∷◌, ◌++◌, refl, ap, sym, ◌∙◌, subst, Some, eq-eqb, ne_eqb}
use prog.Atomic.{either}
use mathlib.Core.Logic.{dite}
use native.Mathlib.Decide.{ℕ_discrete}
use Rattle.op_table.specs.declared.kind.Kind.{Kind}
use Rattle.op_table.specs.declared.call.Reply.{Reply}
use Rattle.op_table.specs.declared.call.Reply.TheVariants as reply
use Rattle.op_table.specs.Kind.{values_of}
use Rattle.op_table.specs.Call.{after_of, answer_of}
use Rattle.op_table.proofs.Rows.{after_fits}
use Rattle.place_core.specs.declared.places.Place.TheVariants.{Lane, Parts}
use Rattle.place_core.specs.Cells.{effect_of, left_by, value_of, IsLawful}
use Rattle.place_core.specs.Shapes.{kind_of, cells_of_shape, strips_of, word_of}
use Rattle.place_core.specs.Operations.{Replaces}
use Rattle.place_core.specs.WordLaws.{EntryReplacesBits, EntryLeavesOtherLane, EntryLeavesOtherWord, PartsEntryLeavesWord, KeptValueKeepsWord, FailedLeavesWord, LoadLeavesWord, PutMakesCall, WonTryMakesCall, LostTryLeavesWord}
use Rattle.place_core.proofs.Blocks.{replaced_blocks}
use Rattle.place_core.proofs.EntryLists.{Each-append_left}
use Rattle.place_core.proofs.CellValues.{effect_of-answer_of, value_of-other}
use Rattle.place_core.proofs.LegalValues.{effect_fits, value_fits, value_after}
use Rattle.place_core.proofs.LaneSums.{sum_same}
use Rattle.place_core.proofs.ShapeWords.{lane_is, word_below, word_same, word_other}
use Rattle.place_core.proofs.StepLaws.{replaced_word}

-- ---- the bits of the lane, and all others

pub entry_replaces_bits : EntryReplacesBits
entry_replaces_bits S ok H legal x fits w s d there =
    let k : Kind = kind_of S x.object in let v : ℕ = value_of (cells_of_shape S) H x.object in
    let placed = ok.placed x.object (Lane w s d) there in
    let wide : values_of k ≡ 2 ^ d = ap (λ (z : ℕ). 2 ^ z) (sym placed.wide) in
    let small : v < values_of k = value_fits S ok H legal x.object in
    let left : left_by k x v < values_of k = effect_fits x.reply (after_of k x.call v) v (values_of k) (after_fits k x.call v (ok.kinds x.object) fits small) small in
    replaced_blocks s d v (left_by k x v) (word_of S H w) (word_of S (H ++ x ∷ []) w)
    record { within = placed.ends; small = subst (λ (z : ℕ). v < z) wide small; below = word_below S ok H legal w; bits = lane_is S ok H legal x.object w s d there }
    (subst (λ (z : ℕ). left_by k x v < z) wide left)
    (word_same S H x w s d there)

pub entry_leaves_other_lane : EntryLeavesOtherLane
entry_leaves_other_lane S ok H x legal o w s d there other =
    lane_is S ok (H ++ x ∷ []) legal o w s d there
    ∙ (value_of-other (cells_of_shape S) H x o other
    ∙ sym (lane_is S ok H (Each-append_left (IsLawful (cells_of_shape S)) H (x ∷ []) legal) o w s d there))

-- ---- other words

pub entry_leaves_other_word : EntryLeavesOtherWord
entry_leaves_other_word S H x v s d w there other = word_other S H x w (λ t e is. let both : Some (Lane v s d) ≡ Some (Lane w t e) = sym there ∙ is in other cc)

pub parts_entry_leaves_word : PartsEntryLeavesWord
parts_entry_leaves_word S H x l f n b w there = word_other S H x w (λ t e is. let both : Some (Parts l f n b) ≡ Some (Lane w t e) = sym there ∙ is in cc)

-- ---- entries that change nothing

pub kept_value_keeps_word : KeptValueKeepsWord
kept_value_keeps_word S H x kept = (values, λ w. sum_same (strips_of S) 0 (value_of (cells_of_shape S) (H ++ x ∷ [])) (value_of (cells_of_shape S) H) w (λ i t lies. values (0 + i)))
  where
    values : (o : ℕ) → value_of (cells_of_shape S) (H ++ x ∷ []) o ≡ value_of (cells_of_shape S) H o
    values o = dite (ℕ_discrete x.object o)
        (λ own. subst (λ (z : ℕ). value_of (cells_of_shape S) (H ++ x ∷ []) z ≡ value_of (cells_of_shape S) H z) own (value_after S H x kept))
        (λ other. value_of-other (cells_of_shape S) H x o other)

pub failed_leaves_word : FailedLeavesWord
failed_leaves_word S H x v failed = let k : Kind = kind_of S x.object in let now : ℕ = value_of (cells_of_shape S) H x.object in
    kept_value_keeps_word S H x (ap (λ (r : Reply). effect_of r (after_of k x.call now) now) failed)

effect_of-same : (r : Reply) (v : ℕ) → effect_of r v v ≡ v
effect_of-same reply.Unit v = refl
effect_of-same (reply.Value r) v = refl
effect_of-same (reply.Bit b) v = refl
effect_of-same (reply.Done r) v = refl
effect_of-same (reply.Failed r) v = refl

pub load_leaves_word : LoadLeavesWord
load_leaves_word S H x load = let k : Kind = kind_of S x.object in let now : ℕ = value_of (cells_of_shape S) H x.object in
    kept_value_keeps_word S H x (ap (λ c. effect_of x.reply (after_of k c now) now) load ∙ effect_of-same x.reply now)

-- ---- a lane replaced by hand

pub put_makes_call : PutMakesCall
put_makes_call S ok H legal x w s d n m there found told put =
    let k : Kind = kind_of S x.object in let v : ℕ = value_of (cells_of_shape S) H x.object in
    let lane : n / 2 ^ s % 2 ^ d ≡ v = ap (λ (z : ℕ). z / 2 ^ s % 2 ^ d) found ∙ lane_is S ok H legal x.object w s d there in
    let left : left_by k x v ≡ after_of k x.call v = ap (λ (r : Reply). effect_of r (after_of k x.call v) v) (told ∙ ap (answer_of k x.call) lane) ∙ effect_of-answer_of k x.call v in
    replaced_word S H x w s d m there (subst (λ (z : ℕ × ℕ). Replaces s v z.0 z.1 m) (λ i. (sym left i, found i)) (subst (λ (z : ℕ). Replaces s z (after_of k x.call z) n m) lane put))

pub won_try_makes_call : WonTryMakesCall
won_try_makes_call S ok H legal x w s d n m there found told put =
    ap (λ (b : Bool). either b m (word_of S H w)) (eq-eqb (word_of S H w) n found) ∙ put_makes_call S ok H legal x w s d n m there (sym found) told put

pub lost_try_leaves_word : LostTryLeavesWord
lost_try_leaves_word S H w n m other = ap (λ (b : Bool). either b m (word_of S H w)) (ne_eqb (word_of S H w) n other)
