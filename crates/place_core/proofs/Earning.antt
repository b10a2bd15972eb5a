-- Changes of a word by others, and the failures that they earn.
use Rattle.std.proofs.Common.{◌≡◌, ◌≢◌, ℕ, ◌+◌, ◌*◌, ◌/◌, ◌%◌, ◌^◌, ◌==◌, Bool, true, false, if◌then◌else◌, List, [], ◌∷◌, ◌++◌, refl, ap, sym, ◌∙◌, subst, arith, Option, Some, None, eq-eqb}
use Rattle.std.specs.List.{AllByRecursion}
use mathlib.Core.Logic.{dite}
use native.Mathlib.Decide.{ℕ_discrete}
use Rattle.std.proofs.lemmas.Nat.{shl-shr}
use Rattle.op_table.specs.declared.call.Call.{Call}
use Rattle.op_table.specs.declared.call.Call.TheVariants.{CasWeak}
use Rattle.op_table.specs.declared.call.Reply.TheVariants as reply
use Rattle.op_table.specs.Call.{answer_of}
use Rattle.place_core.specs.declared.entry.Entry.{Entry}
use Rattle.place_core.specs.declared.places.Place.{Place}
use Rattle.place_core.specs.declared.places.Place.TheVariants.{Lane, Parts}
use Rattle.place_core.specs.declared.shape.Shape.{Shape}
use Rattle.place_core.specs.Cells.{left_by, value_of, entries_by, IsLawful, IsLegal}
use Rattle.place_core.specs.Shapes.{place_of, kind_of, cells_of_shape, word_of, is_sole, IsShape}
use Rattle.place_core.specs.Earned.{ChangesWord, changes_by_others, IsEarned, IsSpuriousEntry}
use Rattle.place_core.specs.ChangeLaws.{ChangesLane, ChangeIsOfLane, OtherChangeCounts, KeptWordCountsNot, EmptyIsEarned, EarnedWithOneMore, EarnedInFront, TwoWordsEarn, SoleLaneEarnsNone, PartsEarnNone, NothingEarnsNone, TableReplyIsNotSpurious}
use Rattle.place_core.proofs.EntryLists.{all_rest, made_by-all, made_by-whole, Each-none, Each-more, Each-prefix, Each-append_left}
use Rattle.place_core.proofs.ShapeWords.{lane_is, sole_word, word_same, word_other}
use Rattle.place_core.proofs.WordEntries.{kept_value_keeps_word}
use Rattle.place_core.proofs.ChangeCounts.{kept_number, other_change, own_stretch, changes_some}

-- ---- which entries change a word

-- a lane with another value makes another word
other_sum : (s u v n m : ℕ) → m + v * 2 ^ s ≡ n + u * 2 ^ s → u ≢ v → m ≢ n
other_sum s u v n m e differs same =
    let both : u * 2 ^ s ≡ v * 2 ^ s = omega arith in differs (sym (shl-shr u s) ∙ (ap (λ (z : ℕ). z / 2 ^ s) both ∙ shl-shr v s))

module _ (S : Shape) (w : ℕ) (before : List Entry) (x : Entry) where
  lane_changed : ChangesLane S w before x → ChangesWord S w before x
  lane_changed c = other_sum c.shift (left_by (kind_of S x.object) x (value_of (cells_of_shape S) before x.object)) (value_of (cells_of_shape S) before x.object) (word_of S before w) (word_of S (before ++ x ∷ []) w)
      (word_same S before x w c.shift c.width c.lane) c.other

  in_place : (p : Option Place) → place_of S x.object ≡ p → ChangesWord S w before x → ChangesLane S w before x
  in_place None e changes = absurd (changes (word_other S before x w (λ t d is. let both : None ≡ Some (Lane w t d) = sym e ∙ is in cc)))
  in_place (Some (Parts l f n b)) e changes = absurd (changes (word_other S before x w (λ t d is. let both : Some (Parts l f n b) ≡ Some (Lane w t d) = sym e ∙ is in cc)))
  in_place (Some (Lane v s d)) e changes = dite (ℕ_discrete v w)
      (λ here. record { shift = s; width = d; lane = e ∙ ap (λ (z : ℕ). Some (Lane z s d)) here; other = λ kept. changes ((kept_value_keeps_word S before x kept).1 w) })
      (λ elsewhere. absurd (changes (word_other S before x w (λ t c is. let both : Some (Lane v s d) ≡ Some (Lane w t c) = sym e ∙ is in elsewhere cc))))

pub change_is_of_lane : ChangeIsOfLane
change_is_of_lane S w before x = (in_place S w before x (place_of S x.object) refl, lane_changed S w before x)

pub other_change_counts : OtherChangeCounts
other_change_counts S w c before x other changes = other_change (λ (y : Entry). y.caller) (λ H. word_of S H w) c before x other changes

pub kept_word_counts_not : KeptWordCountsNot
kept_word_counts_not S w c before x never = kept_number (λ (y : Entry). y.caller) (λ H. word_of S H w) c before x
    (dite (ℕ_discrete (word_of S (before ++ x ∷ []) w) (word_of S before w)) (λ same. same) (λ differs. absurd (never differs)))

-- ---- earned failures

pub empty_is_earned : EmptyIsEarned
empty_is_earned S = Each-none (λ G x. IsSpuriousEntry x → IsEarned S G x)

pub earned_with_one_more : EarnedWithOneMore
earned_with_one_more S H x = Each-more (λ G y. IsSpuriousEntry y → IsEarned S G y) H x

pub earned_in_front : EarnedInFront
earned_in_front S H K front all = Each-prefix (λ G y. IsSpuriousEntry y → IsEarned S G y) H K front all

-- at two histories with one value of the lane and two words, the word has another lane
two_words_shared : (S : Shape) → IsShape S → (a b : List Entry) → IsLegal (cells_of_shape S) a → IsLegal (cells_of_shape S) b → (o w s d : ℕ) → place_of S o ≡ Some (Lane w s d)
    → word_of S a w / 2 ^ s % 2 ^ d ≡ word_of S b w / 2 ^ s % 2 ^ d → word_of S a w ≢ word_of S b w → is_sole S w ≡ false
two_words_shared S ok a b la lb o w s d there same differs = go (is_sole S w) refl
  where
    go : (t : Bool) → is_sole S w ≡ t → t ≡ false
    go false e = refl
    go true e = absurd (differs (sole_word S a o w s d there e
        ∙ (ap (λ (v : ℕ). v * 2 ^ s) (sym (lane_is S ok a la o w s d there) ∙ (same ∙ lane_is S ok b lb o w s d there)) ∙ sym (sole_word S b o w s d there e))))

pub two_words_earn : TwoWordsEarn
two_words_earn S ok before since x legal w s d n m there quiet at_n at_m differs same =
    let words : word_of S before w ≢ word_of S (before ++ since) w = λ e. differs (at_n ∙ (e ∙ sym at_m)) in
    record {
      word = w;
      shift = s;
      width = d;
      lane = there;
      shared = two_words_shared S ok before (before ++ since) (Each-append_left (IsLawful (cells_of_shape S)) before since legal) legal x.object w s d there
          ((λ i. sym at_n i / 2 ^ s % 2 ^ d) ∙ (same ∙ λ i. at_m i / 2 ^ s % 2 ^ d)) words;
      before = before;
      since = since;
      split = refl;
      quiet = quiet;
      changed = changes_some (λ (y : Entry). y.caller) (λ H. word_of S H w) x.caller before since quiet (λ e. words (sym e));
    }

pub sole_lane_earns_none : SoleLaneEarnsNone
sole_lane_earns_none S G x w s d there sole earned =
    let both : Some (Lane w s d) ≡ Some (Lane earned.word earned.shift earned.width) = sym there ∙ earned.lane in
    let one : w ≡ earned.word = cc in
    let bad : true ≡ false = sym sole ∙ (ap (is_sole S) one ∙ earned.shared) in cc

pub parts_earn_none : PartsEarnNone
parts_earn_none S G x l f n b there earned =
    let both : Some (Parts l f n b) ≡ Some (Lane earned.word earned.shift earned.width) = sym there ∙ earned.lane in cc

pub nothing_earns_none : NothingEarnsNone
nothing_earns_none S G x own earned =
    let all : AllByRecursion (λ (y : Entry). y.caller ≡ x.caller) (earned.before ++ earned.since) = subst (AllByRecursion (λ (y : Entry). y.caller ≡ x.caller)) (own ∙ earned.split) (made_by-all (λ (y : Entry). y.caller) G x.caller) in
    let since_own : entries_by earned.since x.caller ≡ earned.since = made_by-whole (λ (y : Entry). y.caller) earned.since x.caller (all_rest (λ (y : Entry). y.caller ≡ x.caller) earned.before earned.since all) in
    let none : changes_by_others S earned.word x.caller earned.before earned.since ≡ 0 = own_stretch (λ (y : Entry). y.caller) (λ H. word_of S H earned.word) x.caller earned.before earned.since since_own in
    let some = earned.changed in omega arith

-- ---- spurious failures

failed_as : (b : Bool) (v e : ℕ) → (v == e) ≡ b → (if b then reply.Done v else reply.Failed v) ≡ reply.Failed e → ⊥
failed_as true v e is failed = cc
failed_as false v e is failed = let same : v ≡ e = cc in let bad : false ≡ true = sym is ∙ eq-eqb v e same in cc

pub table_reply_is_not_spurious : TableReplyIsNotSpurious
table_reply_is_not_spurious S x v told spurious =
    let e : ℕ = spurious.0 in let n : ℕ = spurious.1 in
    let answer : answer_of (kind_of S x.object) (CasWeak e n) v ≡ reply.Failed e = sym (ap (λ (c : Call). answer_of (kind_of S x.object) c v) spurious.2) ∙ (sym told ∙ spurious.3) in
    failed_as (v == e) v e refl answer
