-- Which words a place of a valid shape has, and that no other place has them.
use Rattle.std.proofs.Common.{⊎_elim, ℕ, ◌+◌, ◌<◌, ◌≤◌, refl, sym, arith}
use mathlib.Core.Logic.{dite}
use native.Mathlib.Decide.{ℕ_discrete}
use Rattle.place_core.specs.declared.places.Place.{Place}
use Rattle.place_core.specs.declared.places.Place.TheVariants.{Lane, Parts}
use Rattle.place_core.specs.declared.shape.Shape.{Shape}
use Rattle.place_core.specs.Shapes.{kind_of, IsPlaced, AreApart}
use Rattle.place_core.specs.ShapeLaws.{LiesOn, PlaceIsWithin, LanesAreApart, PartWordIsOwn}

within : (S : Shape) (o : ℕ) (a : Place) (v : ℕ) → IsPlaced S (kind_of S o) a → LiesOn a v → v < S.words
within S o (Lane w s d) v placed on = let lt = placed.within in omega (arith, lt, on)
within S o (Parts l f n b) v placed on = let le = placed.within in let lt = on.1 in omega (arith, le, lt)

pub place_is_within : PlaceIsWithin
place_is_within S ok o a v there on = within S o a v (ok.placed o a there) on

pub lanes_are_apart : LanesAreApart
lanes_are_apart S ok o p w s d t e there also ne = ok.apart o p (Lane w s d) (Lane w t e) there also ne refl

-- parts and a place apart from them have no word in common
no_word : (l f n b v : ℕ) (a : Place) → AreApart (Parts l f n b) a → LiesOn (Parts l f n b) v → LiesOn a v → ⊥
no_word l f n b v (Lane w s d) apart on also = let low = on.0 in let high = on.1 in ⊎_elim (λ (x : w < f). omega (arith, x, low, also)) (λ (x : f + n ≤ w). omega (arith, x, high, also)) apart
no_word l f n b v (Parts k g m c) apart on also = let low = on.0 in let high = on.1 in let low' = also.0 in let high' = also.1 in
    ⊎_elim (λ (x : f + n ≤ g). omega (arith, x, high, low')) (λ (x : g + m ≤ f). omega (arith, x, low, high')) apart

pub part_word_is_own : PartWordIsOwn
part_word_is_own S ok o p l f n b v a there on also lies = dite (ℕ_discrete p o)
    (λ same. same)
    (λ ne. absurd (no_word l f n b v a (ok.apart o p (Parts l f n b) a there also (λ e. ne (sym e))) on lies))
