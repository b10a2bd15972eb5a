-- The one law over steps: a step that serves a call makes it.
use Rattle.std.proofs.Common.{◌≡◌, ℕ, ◌+◌, ◌-◌, ◌*◌, ◌/◌, ◌%◌, ◌^◌, ◌<◌, ◌≤◌, ◌==◌, Bool, true, false, if◌then◌else◌, List, [], ◌∷◌, ◌++◌, refl, ap, sym, ◌∙◌, subst, arith, Some}
use Rattle.std.specs.Prelude.{bit_and, bit_or, bit_xor, nat_lt, max, min, not, ◌&&◌}
use Rattle.std.proofs.lemmas.Nat.{pow_pos, pow-add}
use Rattle.std.proofs.Math.Nat.{pow-le-pow_right}
use Rattle.std.proofs.lemmas.Bool.{eqb-true}
use Rattle.op_table.specs.declared.kind.Kind.{Kind}
use Rattle.op_table.specs.declared.call.Call.{Call}
use Rattle.op_table.specs.declared.call.Call.TheVariants.{Load, Store, Swap, Cas, CasWeak, Add, Sub, And, Or, Xor, Max, Min, Not, BitSet, BitClear, BitToggle, AddFetch, SubFetch, AndFetch, OrFetch, XorFetch}
use Rattle.op_table.specs.Kind.{bits_of, values_of}
use Rattle.op_table.specs.Call.{after_of, answer_of, bit_place, rank_of, CallFits}
use Rattle.op_table.proofs.Rows.{place_fits, after_fits}
use Rattle.place_core.specs.declared.entry.Entry.{Entry}
use Rattle.place_core.specs.declared.places.WordOp.{WordOp}
use Rattle.place_core.specs.declared.places.WordOp.TheVariants as op
use Rattle.place_core.specs.declared.places.Place.TheVariants.{Lane}
use Rattle.place_core.specs.declared.shape.Shape.{Shape}
use Rattle.place_core.specs.Cells.{effect_of, left_by, value_of, IsLegal}
use Rattle.place_core.specs.Shapes.{place_of, kind_of, cells_of_shape, word_of, is_sole, IsShape}
use Rattle.place_core.specs.Operations.{word_after, only_if, is_top, outside, op_for, Replaces, IsReplaced, OpServes}
use Rattle.place_core.specs.ShapeLaws.{StepReplacesLane, StepTellsReply, StepMakesCall}
use Rattle.place_core.proofs.CellValues.{effect_of-answer_of}
use Rattle.place_core.proofs.LegalValues.{value_fits}
use Rattle.place_core.proofs.Blocks.{HasLane, and_lane, or_lane, xor_lane, add_lane, sub_lane, set_lane, keep_lane, cas_lane, max_lane, min_lane, xor_ones, and_without, replaced_blocks}
use Rattle.place_core.proofs.ShapeWords.{word_below, lane_is, sole_word, word_same}

only : (b : Bool) (o done : WordOp) → only_if b o ≡ Some done → (b ≡ true) × (o ≡ done)
only true o done e = (refl, cc (e))
only false o done e = absurd cc

all_three : (a b c : Bool) → (a && b && not c) ≡ true → (a ≡ true) × (b ≡ true) × (c ≡ false)
all_three true true false e = (refl, refl, refl)
all_three true true true e = absurd cc
all_three true false c e = absurd cc
all_three false b c e = absurd cc

-- a bit of the lane, in the word
bit_at : (s q : ℕ) → 2 ^ (s + q) ≡ 2 ^ q * 2 ^ s
bit_at s q = pow-add 2 s q ∙ omega arith

-- all bits but one of the lane
clear_mask : (s d b : ℕ) → s + d ≤ 64 → b < 2 ^ d → 2 ^ 64 - 1 - b * 2 ^ s ≡ (2 ^ d - 1 - b) * 2 ^ s + outside s d
clear_mask s d b within fits =
    let pos = pow_pos s in
    let c : ℕ = 2 ^ d - 1 - b in
    let both : 2 ^ d - 1 ≡ c + b = omega arith in
    let up : 2 ^ d ≡ c + b + 1 = omega arith in
    let top : 2 ^ (d + s) ≤ 2 ^ 64 = pow-le-pow_right {n = 2} (omega arith) {i = d + s} {j = 64} (omega arith) in
    let all : 2 ^ (d + s) ≡ (c + b + 1) * 2 ^ s = pow-add 2 d s ∙ ap (λ (z : ℕ). z * 2 ^ s) up in
    let prod : (2 ^ d - 1) * 2 ^ s ≡ (c + b) * 2 ^ s = ap (λ (z : ℕ). z * 2 ^ s) both in
    omega arith

rank_plain : (k : Kind) (v : ℕ) → k.signed ≡ false → rank_of k v ≡ v
rank_plain k v e = ap (λ (b : Bool). if b then (v + values_of k / 2) % values_of k else v) e

module _ (k : Kind) (s v n : ℕ) (sole : Bool) (h : HasLane s (bits_of k.width) v n) (alone : sole ≡ true → n ≡ v * 2 ^ s) where
  -- an operation whose new word is known serves
  by_op : (new : ℕ) (o done : WordOp) → o ≡ done → Replaces s v new n (word_after o n) → Replaces s v new n (word_after done n)
  by_op new o done e r = subst (λ (z : WordOp). Replaces s v new n (word_after z n)) e r

  pub serves_lane : (call : Call) (done : WordOp) → CallFits k call → op_for k s (bits_of k.width) sole call ≡ Some done → Replaces s v (after_of k call v) n (word_after done n)
  serves_lane Load done c e = by_op v op.Load done (cc (e)) (keep_lane s v n)
  serves_lane (Store a) done c e = let t = only sole (op.Store (a * 2 ^ s)) done e in by_op a (op.Store (a * 2 ^ s)) done t.1 (set_lane s v n a (alone t.0))
  serves_lane (Swap a) done c e = let t = only sole (op.Swap (a * 2 ^ s)) done e in by_op a (op.Swap (a * 2 ^ s)) done t.1 (set_lane s v n a (alone t.0))
  serves_lane (Cas x a) done c e = let t = only sole (op.Cas (x * 2 ^ s) (a * 2 ^ s)) done e in by_op (if v == x then a else v) (op.Cas (x * 2 ^ s) (a * 2 ^ s)) done t.1 (cas_lane s v n x a (alone t.0))
  serves_lane (CasWeak x a) done c e = let t = only sole (op.Cas (x * 2 ^ s) (a * 2 ^ s)) done e in by_op (if v == x then a else v) (op.Cas (x * 2 ^ s) (a * 2 ^ s)) done t.1 (cas_lane s v n x a (alone t.0))
  serves_lane (Add a q) done c e = let t = only (is_top s (bits_of k.width)) (op.Add (a * 2 ^ s)) done e in
      by_op (after_of k (Add a q) v) (op.Add (a * 2 ^ s)) done t.1 (add_lane s (bits_of k.width) v n a h (eqb-true (s + bits_of k.width) 64 t.0))
  serves_lane (Sub a q) done c e = let t = only (is_top s (bits_of k.width)) (op.Sub (a * 2 ^ s)) done e in
      by_op (after_of k (Sub a q) v) (op.Sub (a * 2 ^ s)) done t.1 (sub_lane s (bits_of k.width) v n a h c.0 (eqb-true (s + bits_of k.width) 64 t.0))
  serves_lane (And a q) done c e = by_op (bit_and v a) (op.And (a * 2 ^ s + outside s (bits_of k.width))) done (cc (e)) (and_lane s (bits_of k.width) v n a h c.0)
  serves_lane (Or a q) done c e = by_op (bit_or v a) (op.Or (a * 2 ^ s)) done (cc (e)) (or_lane s (bits_of k.width) v n a h c.0)
  serves_lane (Xor a q) done c e = by_op (bit_xor v a) (op.Xor (a * 2 ^ s)) done (cc (e)) (xor_lane s (bits_of k.width) v n a h c.0)
  serves_lane (Max a) done c e =
      let t = only (sole && is_top s (bits_of k.width) && not k.signed) (op.Max (a * 2 ^ s)) done e in
      let u = all_three sole (is_top s (bits_of k.width)) k.signed t.0 in
      by_op (after_of k (Max a) v) (op.Max (a * 2 ^ s)) done t.1
      (subst (λ (z : ℕ × ℕ). Replaces s v (if nat_lt z.0 z.1 then a else v) n (max n (a * 2 ^ s))) (λ i. (sym (rank_plain k v u.2) i, sym (rank_plain k a u.2) i)) (max_lane s v n a (alone u.0)))
  serves_lane (Min a) done c e =
      let t = only (sole && is_top s (bits_of k.width) && not k.signed) (op.Min (a * 2 ^ s)) done e in
      let u = all_three sole (is_top s (bits_of k.width)) k.signed t.0 in
      by_op (after_of k (Min a) v) (op.Min (a * 2 ^ s)) done t.1
      (subst (λ (z : ℕ × ℕ). Replaces s v (if nat_lt z.0 z.1 then a else v) n (min n (a * 2 ^ s))) (λ i. (sym (rank_plain k a u.2) i, sym (rank_plain k v u.2) i)) (min_lane s v n a (alone u.0)))
  serves_lane (Not q) done c e = let small = h.small in let pos = pow_pos (bits_of k.width) in
      by_op (after_of k (Not q) v) (op.Xor ((2 ^ bits_of k.width - 1) * 2 ^ s)) done (cc (e))
      (subst (λ (z : ℕ). Replaces s v z n (bit_xor n ((2 ^ bits_of k.width - 1) * 2 ^ s))) (xor_ones (bits_of k.width) v small) (xor_lane s (bits_of k.width) v n (2 ^ bits_of k.width - 1) h (omega arith)))
  serves_lane (BitSet p) done c e = by_op (after_of k (BitSet p) v) (op.Or (2 ^ (s + p % bits_of k.width))) done (cc (e))
      (subst (λ (z : ℕ). Replaces s v (bit_or v (bit_place k p)) n (bit_or n z)) (sym (bit_at s (p % bits_of k.width))) (or_lane s (bits_of k.width) v n (bit_place k p) h (place_fits k p)))
  serves_lane (BitClear p) done c e = let small = h.small in let pos = pow_pos (bits_of k.width) in
      let mask : 2 ^ 64 - 1 - 2 ^ (s + p % bits_of k.width) ≡ (2 ^ bits_of k.width - 1 - bit_place k p) * 2 ^ s + outside s (bits_of k.width) =
      ap (λ (z : ℕ). 2 ^ 64 - 1 - z) (bit_at s (p % bits_of k.width)) ∙ clear_mask s (bits_of k.width) (bit_place k p) h.within (place_fits k p) in
      by_op (after_of k (BitClear p) v) (op.And (2 ^ 64 - 1 - 2 ^ (s + p % bits_of k.width))) done (cc (e))
      (subst (λ (z : ℕ × ℕ). Replaces s v z.0 n (bit_and n z.1)) (λ i. (and_without (bits_of k.width) v (bit_place k p) small (place_fits k p) i, sym mask i))
      (and_lane s (bits_of k.width) v n (2 ^ bits_of k.width - 1 - bit_place k p) h (omega arith)))
  serves_lane (BitToggle p) done c e = by_op (after_of k (BitToggle p) v) (op.Xor (2 ^ (s + p % bits_of k.width))) done (cc (e))
      (subst (λ (z : ℕ). Replaces s v (bit_xor v (bit_place k p)) n (bit_xor n z)) (sym (bit_at s (p % bits_of k.width))) (xor_lane s (bits_of k.width) v n (bit_place k p) h (place_fits k p)))
  serves_lane (AddFetch a) done c e = let t = only (is_top s (bits_of k.width)) (op.Add (a * 2 ^ s)) done e in
      by_op (after_of k (AddFetch a) v) (op.Add (a * 2 ^ s)) done t.1 (add_lane s (bits_of k.width) v n a h (eqb-true (s + bits_of k.width) 64 t.0))
  serves_lane (SubFetch a) done c e = let t = only (is_top s (bits_of k.width)) (op.Sub (a * 2 ^ s)) done e in
      by_op (after_of k (SubFetch a) v) (op.Sub (a * 2 ^ s)) done t.1 (sub_lane s (bits_of k.width) v n a h c.0 (eqb-true (s + bits_of k.width) 64 t.0))
  serves_lane (AndFetch a) done c e = by_op (bit_and v a) (op.And (a * 2 ^ s + outside s (bits_of k.width))) done (cc (e)) (and_lane s (bits_of k.width) v n a h c.0)
  serves_lane (OrFetch a) done c e = by_op (bit_or v a) (op.Or (a * 2 ^ s)) done (cc (e)) (or_lane s (bits_of k.width) v n a h c.0)
  serves_lane (XorFetch a) done c e = by_op (bit_xor v a) (op.Xor (a * 2 ^ s)) done (cc (e)) (xor_lane s (bits_of k.width) v n a h c.0)
  serves_lane _ done c e = absurd cc

-- what a step that replaces a lane makes of its word
pub replaced_word : (S : Shape) (log : List Entry) (x : Entry) (w s d m : ℕ) → place_of S x.object ≡ Some (Lane w s d)
    → Replaces s (value_of (cells_of_shape S) log x.object) (left_by (kind_of S x.object) x (value_of (cells_of_shape S) log x.object)) (word_of S log w) m → m ≡ word_of S (log ++ x ∷ []) w
replaced_word S log x w s d m there r = let law = word_same S log x w s d there in omega arith

module _ (S : Shape) (ok : IsShape S) (H : List Entry) (legal : IsLegal (cells_of_shape S) H) (o : ℕ) (call : Call) (done : WordOp) (serves : OpServes S o call done) where
  wide : bits_of (kind_of S o).width ≡ serves.width
  wide = sym (ok.placed o (Lane serves.word serves.shift serves.width) serves.lane).wide

  found_is : word_of S H serves.word / 2 ^ serves.shift % 2 ^ serves.width ≡ value_of (cells_of_shape S) H o
  found_is = lane_is S ok H legal o serves.word serves.shift serves.width serves.lane

  has_lane : HasLane serves.shift (bits_of (kind_of S o).width) (value_of (cells_of_shape S) H o) (word_of S H serves.word)
  has_lane = record {
    within = subst (λ (z : ℕ). serves.shift + z ≤ 64) (sym wide) (ok.placed o (Lane serves.word serves.shift serves.width) serves.lane).ends;
    small = value_fits S ok H legal o;
    below = word_below S ok H legal serves.word;
    bits = ap (λ (z : ℕ). word_of S H serves.word / 2 ^ serves.shift % 2 ^ z) wide ∙ found_is;
  }

  module _ (fits : CallFits (kind_of S o) call) where
    step_replaces : Replaces serves.shift (value_of (cells_of_shape S) H o) (after_of (kind_of S o) call (value_of (cells_of_shape S) H o)) (word_of S H serves.word) (word_after done (word_of S H serves.word))
    step_replaces = serves_lane (kind_of S o) serves.shift (value_of (cells_of_shape S) H o) (word_of S H serves.word) (is_sole S serves.word) has_lane
        (λ t. sole_word S H o serves.word serves.shift serves.width serves.lane t) call done fits
        (subst (λ (z : ℕ). op_for (kind_of S o) serves.shift z (is_sole S serves.word) call ≡ Some done) (sym wide) serves.serves)

    blocks_replaced : IsReplaced serves.shift serves.width (after_of (kind_of S o) call (value_of (cells_of_shape S) H o)) (word_of S H serves.word) (word_after done (word_of S H serves.word))
    blocks_replaced = subst (λ (z : ℕ). IsReplaced serves.shift z (after_of (kind_of S o) call (value_of (cells_of_shape S) H o)) (word_of S H serves.word) (word_after done (word_of S H serves.word))) wide
        (replaced_blocks serves.shift (bits_of (kind_of S o).width) (value_of (cells_of_shape S) H o) (after_of (kind_of S o) call (value_of (cells_of_shape S) H o)) (word_of S H serves.word) (word_after done (word_of S H serves.word)) has_lane
        (after_fits (kind_of S o) call (value_of (cells_of_shape S) H o) (ok.kinds o) fits (value_fits S ok H legal o)) step_replaces)

pub step_replaces_lane : StepReplacesLane
step_replaces_lane S ok H legal o call done serves fits = blocks_replaced S ok H legal o call done serves fits

pub step_tells_reply : StepTellsReply
step_tells_reply S ok H legal o call done serves = ap (answer_of (kind_of S o) call) (found_is S ok H legal o call done serves)

pub step_makes_call : StepMakesCall
step_makes_call S ok H legal call done x same serves fits reply =
    let k : Kind = kind_of S x.object in let v : ℕ = value_of (cells_of_shape S) H x.object in
    let told : x.reply ≡ answer_of k call v = reply ∙ step_tells_reply S ok H legal x.object call done serves in
    let left : left_by k x v ≡ after_of k call v = (λ i. effect_of (told i) (after_of k (same i) v) v) ∙ effect_of-answer_of k call v in
    replaced_word S H x serves.word serves.shift serves.width (word_after done (word_of S H serves.word)) serves.lane
    (subst (λ (z : ℕ). Replaces serves.shift v z (word_of S H serves.word) (word_after done (word_of S H serves.word))) (sym left) (step_replaces S ok H legal x.object call done serves fits))
