-- Lists that are walked by an index, or from the front.
use Rattle.std.proofs.Common.{◌≡◌, ℕ, zero, suc, ◌<◌, List, [], ◌∷◌, length, get_or, refl, sym, subst, ap, arith}
use Rattle.std.specs.Prelude.{Some, slice_get}
use Rattle.std.specs.List.{AllByRecursion}
use Rattle.work_lang.specs.Spelling.{Pairs}

pub below_at : {X : Type 0} (xs : List X) (i : ℕ) (x : X) → slice_get xs i ≡ Some x → i < length xs
below_at [] i x at = absurd (cc)
below_at (y ∷ ys) zero x at = omega arith
below_at (y ∷ ys) (suc i) x at = omega (arith, below_at ys i x at)

pub get_at : {X : Type 0} (xs : List X) (i : ℕ) (d : X) → i < length xs → d ≡ get_or xs i d → slice_get xs i ≡ Some d
get_at [] i d inside is = absurd (omega arith)
get_at (x ∷ xs) zero d inside is = ap Some (sym is)
get_at (x ∷ xs) (suc i) d inside is = get_at xs i d (omega arith) is

pub all_at : {X : Type 0} (P : X → Type 0) (xs : List X) (i : ℕ) (x : X) → AllByRecursion P xs → slice_get xs i ≡ Some x → P x
all_at P [] i x all at = absurd (cc)
all_at P (y ∷ ys) zero x all at = let same : y ≡ x = cc in subst P same all.0
all_at P (y ∷ ys) (suc i) x all at = all_at P ys i x all.1 at

-- ---- pairs

pub pairs_length : {X Y : Type 0} (R : X → Y → Type 0) (xs : List X) (ys : List Y) → Pairs R xs ys → length xs ≡ length ys
pairs_length R [] [] pairs = refl
pairs_length R [] (y ∷ ys) pairs = absurd pairs
pairs_length R (x ∷ xs) [] pairs = absurd pairs
pairs_length R (x ∷ xs) (y ∷ ys) pairs = ap suc (pairs_length R xs ys pairs.1)

pub pairs_at : {X Y : Type 0} (R : X → Y → Type 0) (xs : List X) (ys : List Y) (i : ℕ) (x : X) (y : Y) → Pairs R xs ys → slice_get xs i ≡ Some x → slice_get ys i ≡ Some y → R x y
pairs_at R [] ys i x y pairs atx aty = absurd (cc)
pairs_at R (a ∷ xs) [] i x y pairs atx aty = absurd pairs
pairs_at R (a ∷ xs) (b ∷ ys) zero x y pairs atx aty =
    let one : a ≡ x = cc in
    let two : b ≡ y = cc in
    subst (λ z. R x z) two (subst (λ z. R z b) one pairs.0)
pairs_at R (a ∷ xs) (b ∷ ys) (suc i) x y pairs atx aty = pairs_at R xs ys i x y pairs.1 atx aty
