-- The lanes of a shape, and the words in which they lie.
use Rattle.std.proofs.Common.{◌≡◌, ◌≢◌, ℕ, zero, suc, ◌+◌, ◌*◌, ◌/◌, ◌%◌, ◌^◌, ◌<◌, ◌≤◌, ◌==◌, Bool, true, false, if◌then◌else◌, List, [], ◌∷◌, ◌++◌, refl, ap, sym, ◌∙◌, subst, arith, eq-eqb, ne_eqb, Option, Some, None, slice_get}
use Rattle.std.specs.Prelude.{map}
use Rattle.std.proofs.lemmas.Bool.{eqb-true}
use mathlib.Core.Logic.{dite}
use native.Mathlib.Decide.{ℕ_discrete}
use Rattle.place_core.specs.declared.entry.Entry.{Entry}
use Rattle.place_core.specs.declared.places.Object.{Object}
use Rattle.place_core.specs.declared.places.Place.{Place}
use Rattle.place_core.specs.declared.places.Place.TheVariants.{Lane, Parts}
use Rattle.place_core.specs.declared.shape.Shape.{Shape}
use Rattle.place_core.specs.Cells.{left_by, value_of, IsLegal}
use Rattle.place_core.specs.Shapes.{place_in, place_of, kind_of, cells_of_shape, strip_of, strips_of, word_of, is_sole, IsShape}
use Rattle.place_core.specs.WordSums.{Strip, lies_in, piece, word_sum, one_if, lanes_in}
use Rattle.place_core.proofs.LaneSums.{Lies, IsLaid, sum_same, sum_below, change_at, lane_value}
use Rattle.place_core.proofs.CellValues.{value_of-other}
use Rattle.place_core.proofs.LegalValues.{value_fits, value_own}
use Rattle.place_core.proofs.ShapeTests.{bits_pos}

abbrev pub strip : ℕ → ℕ → ℕ → Strip
strip w s d = record { word = w; shift = s; width = d }

at_list : (l : List Object) (i w s d : ℕ) → place_in (slice_get l i) ≡ Some (Lane w s d) → slice_get (map (λ (a : Object). strip_of a.place) l) i ≡ Some (Some (strip w s d))
at_list [] i w s d e = absurd cc
at_list (x ∷ xs) zero w s d e = let one : x.place ≡ Lane w s d = cc (e) in ap (λ (p : Place). Some (strip_of p)) one
at_list (x ∷ xs) (suc i) w s d e = at_list xs i w s d e

of_strip : (p : Place) (t : Strip) → strip_of p ≡ Some t → p ≡ Lane t.word t.shift t.width
of_strip (Lane w s d) t e = let one : strip w s d ≡ t = cc (e) in ap (λ (z : Strip). Lane z.word z.shift z.width) one
of_strip (Parts l f n b) t e = absurd cc

back_list : (l : List Object) (i : ℕ) (t : Strip) → slice_get (map (λ (a : Object). strip_of a.place) l) i ≡ Some (Some t) → place_in (slice_get l i) ≡ Some (Lane t.word t.shift t.width)
back_list [] i t e = absurd cc
back_list (x ∷ xs) zero t e = let one : strip_of x.place ≡ Some t = cc (e) in ap (λ (p : Place). Some p) (of_strip x.place t one)
back_list (x ∷ xs) (suc i) t e = back_list xs i t e

pub strip_at : (S : Shape) (o w s d : ℕ) → place_of S o ≡ Some (Lane w s d) → Lies (strips_of S) o (strip w s d) w
strip_at S o w s d e = (at_list S.objects o w s d e, refl)

pub strip_back : (S : Shape) (o w : ℕ) (t : Strip) → Lies (strips_of S) o t w → place_of S o ≡ Some (Lane w t.shift t.width)
strip_back S o w t lies = back_list S.objects o t lies.0 ∙ ap (λ (z : ℕ). Some (Lane z t.shift t.width)) lies.1

pub laid : (S : Shape) → IsShape S → (w : ℕ) → IsLaid (strips_of S) w
laid S ok w = record {
  apart = λ i j s t li lj ne. ok.apart i j (Lane w s.shift s.width) (Lane w t.shift t.width) (strip_back S i w s li) (strip_back S j w t lj) ne refl;
  wide = λ i s li. subst (λ (z : ℕ). 0 < z) (sym (ok.placed i (Lane w s.shift s.width) (strip_back S i w s li)).wide) (bits_pos (kind_of S i).width);
}

module _ (S : Shape) (ok : IsShape S) (log : List Entry) (legal : IsLegal (cells_of_shape S) log) where
  pub lanes_small : (w i : ℕ) (t : Strip) → Lies (strips_of S) i t w → value_of (cells_of_shape S) log i < 2 ^ t.width
  lanes_small w i t li = subst (λ (z : ℕ). value_of (cells_of_shape S) log i < 2 ^ z) (sym (ok.placed i (Lane w t.shift t.width) (strip_back S i w t li)).wide) (value_fits S ok log legal i)

  -- a word is one of 64 bits
  pub word_below : (w : ℕ) → word_of S log w < 2 ^ 64
  word_below w = sum_below 64 64 (omega arith) (strips_of S) (value_of (cells_of_shape S) log) w (laid S ok w) (lanes_small w) (λ i t li _. (ok.placed i (Lane w t.shift t.width) (strip_back S i w t li)).ends)

  -- a lane's bits are its object's value
  pub lane_is : (o w s d : ℕ) → place_of S o ≡ Some (Lane w s d) → word_of S log w / 2 ^ s % 2 ^ d ≡ value_of (cells_of_shape S) log o
  lane_is o w s d there = lane_value (strips_of S) (value_of (cells_of_shape S) log) w o (strip w s d) (laid S ok w) (lanes_small w) (strip_at S o w s d there)

-- a word without a lane
none_sum : (l : List (Option Strip)) (k : ℕ) (g : ℕ → ℕ) (w : ℕ) → lanes_in l w ≡ 0 → word_sum l k g w ≡ 0
unfolding lanes_in word_sum
none_sum [] k g w e = refl
none_sum (None ∷ more) k g w e = let rest = none_sum more (suc k) g w (omega arith) in omega arith
none_sum (Some t ∷ more) k g w e = dite (ℕ_discrete t.word w)
    (λ is. let b : (t.word == w) ≡ true = eq-eqb t.word w is in let one : one_if (t.word == w) ≡ 1 = ap one_if b in absurd (omega arith))
    (λ ne. let b : (t.word == w) ≡ false = ne_eqb t.word w ne in
    let nothing : one_if (t.word == w) ≡ 0 = ap one_if b in
    let p : piece (Some t) w (g k) ≡ 0 = ap (λ (z : Bool). if z then g k * 2 ^ t.shift else 0) b in
    let rest = none_sum more (suc k) g w (omega arith) in omega arith)

some_lane : (l : List (Option Strip)) (o w : ℕ) (s : Strip) → Lies l o s w → 1 ≤ lanes_in l w
unfolding lanes_in
some_lane [] o w s lies = absurd (cc (lies.0))
some_lane (a ∷ more) zero w s lies = let one : a ≡ Some s = cc (lies.0) in
    let b : lies_in w a ≡ true = ap (lies_in w) one ∙ eq-eqb s.word w lies.1 in
    let here : one_if (lies_in w a) ≡ 1 = ap one_if b in omega arith
some_lane (a ∷ more) (suc o) w s lies = let rest = some_lane more o w s lies in omega arith

sole_sum : (l : List (Option Strip)) (k o : ℕ) (s : Strip) (g : ℕ → ℕ) (w : ℕ) → Lies l o s w → lanes_in l w ≡ 1 → word_sum l k g w ≡ g (k + o) * 2 ^ s.shift
unfolding lanes_in word_sum
sole_sum [] k o s g w lies e = absurd (cc (lies.0))
sole_sum (a ∷ more) k zero s g w lies e =
    let one : a ≡ Some s = cc (lies.0) in
    let b : lies_in w a ≡ true = ap (lies_in w) one ∙ eq-eqb s.word w lies.1 in
    let here : one_if (lies_in w a) ≡ 1 = ap one_if b in
    let rest = none_sum more (suc k) g w (omega arith) in
    let p : piece a w (g k) ≡ g k * 2 ^ s.shift = ap (λ (z : Option Strip). piece z w (g k)) one ∙ ap (λ (z : Bool). if z then g k * 2 ^ s.shift else 0) (eq-eqb s.word w lies.1) in
    let at : k + 0 ≡ k = omega arith in
    subst (λ (z : ℕ). piece a w (g k) + word_sum more (suc k) g w ≡ g z * 2 ^ s.shift) (sym at) (omega arith)
sole_sum (None ∷ more) k (suc o) s g w lies e =
    let at : k + suc o ≡ suc k + o = omega arith in
    subst (λ (z : ℕ). 0 + word_sum more (suc k) g w ≡ g z * 2 ^ s.shift) (sym at) (let rest = sole_sum more (suc k) o s g w lies (omega arith) in omega arith)
sole_sum (Some t ∷ more) k (suc o) s g w lies e =
    let at : k + suc o ≡ suc k + o = omega arith in
    let some : 1 ≤ lanes_in more w = some_lane more o w s lies in
    dite (ℕ_discrete t.word w)
    (λ is. let one : one_if (t.word == w) ≡ 1 = ap one_if (eq-eqb t.word w is) in absurd (omega arith))
    (λ ne. let b : (t.word == w) ≡ false = ne_eqb t.word w ne in
    let nothing : one_if (t.word == w) ≡ 0 = ap one_if b in
    let p : piece (Some t) w (g k) ≡ 0 = ap (λ (z : Bool). if z then g k * 2 ^ t.shift else 0) b in
    let rest = sole_sum more (suc k) o s g w lies (omega arith) in
    subst (λ (z : ℕ). piece (Some t) w (g k) + word_sum more (suc k) g w ≡ g z * 2 ^ s.shift) (sym at) (omega arith))

-- a word with one lane
pub sole_word : (S : Shape) (log : List Entry) (o w s d : ℕ) → place_of S o ≡ Some (Lane w s d) → is_sole S w ≡ true → word_of S log w ≡ value_of (cells_of_shape S) log o * 2 ^ s
sole_word S log o w s d there sole = sole_sum (strips_of S) 0 o (strip w s d) (value_of (cells_of_shape S) log) w (strip_at S o w s d there) (eqb-true (lanes_in (strips_of S) w) 1 sole)
    ∙ ap (λ (z : ℕ). value_of (cells_of_shape S) log z * 2 ^ s) (let e : 0 + o ≡ o = omega arith in e)

-- an entry on a lane replaces its bits in its word
pub word_same : (S : Shape) (log : List Entry) (x : Entry) (w s d : ℕ) → place_of S x.object ≡ Some (Lane w s d)
    → word_of S (log ++ x ∷ []) w + value_of (cells_of_shape S) log x.object * 2 ^ s ≡ word_of S log w + left_by (kind_of S x.object) x (value_of (cells_of_shape S) log x.object) * 2 ^ s
word_same S log x w s d there = change_at (strips_of S) x.object (strip w s d) (value_of (cells_of_shape S) log) (value_of (cells_of_shape S) (log ++ x ∷ [])) w (strip_at S x.object w s d there) (λ i ne. value_of-other (cells_of_shape S) log x i (λ e. ne (sym e)))
    ∙ ap (λ (v : ℕ). word_of S log w + v * 2 ^ s) (value_own S log x (Lane w s d) there)

-- and leaves every other word
pub word_other : (S : Shape) (log : List Entry) (x : Entry) (w : ℕ) → ((s d : ℕ) → place_of S x.object ≢ Some (Lane w s d)) → word_of S (log ++ x ∷ []) w ≡ word_of S log w
word_other S log x w never = sum_same (strips_of S) 0 (value_of (cells_of_shape S) (log ++ x ∷ [])) (value_of (cells_of_shape S) log) w
    (λ i t lies. let at : 0 + i ≡ i = omega arith in subst (λ (z : ℕ). value_of (cells_of_shape S) (log ++ x ∷ []) z ≡ value_of (cells_of_shape S) log z) (sym at)
    (value_of-other (cells_of_shape S) log x i (λ e. never t.shift t.width (ap (place_of S) e ∙ strip_back S i w t lies))))
