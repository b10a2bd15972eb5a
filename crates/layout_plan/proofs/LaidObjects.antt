-- The objects of a laid shape: each is a declared one, at its address.
use Rattle.std.proofs.Common.{◌≡◌, ◌⊎◌, inl, inr, ⊎_elim, ℕ, zero, suc, ◌+◌, ◌/◌, ◌%◌, ◌<◌, ◌≤◌, Bool, true, false, List, [], ◌∷◌, map, refl, ap, sym, ◌∙◌, subst, arith, if◌then◌else◌, Option, Some, None, slice_get}
use Rattle.std.specs.Prelude.{slice_index}
use Rattle.op_table.specs.declared.kind.Kind.{Kind}
use Rattle.op_table.specs.Kind.{bits_of, bytes_of}
use Rattle.target_desc.specs.declared.target.Target.{Target}
use Rattle.target_desc.specs.Target.{IsTarget}
use Rattle.place_core.specs.declared.name.Declared.{Declared}
use Rattle.place_core.specs.declared.places.Place.{Place}
use Rattle.place_core.specs.declared.places.Place.TheVariants.{Lane, Parts}
use Rattle.place_core.specs.declared.places.Object.{Object}
use Rattle.place_core.specs.Cells.{Cell}
use Rattle.place_core.specs.Shapes.{place_in, parts_for, place_of}
use Rattle.place_core.proofs.ShapeFacts.{place_of-at, kind_of-at, start_of-at}
use Rattle.layout_plan.specs.Layout.{word_bytes, alignment_of, next_address, place_after, addresses_from, address_of, has_lane, shift_at, place_at, laid_at, objects_from, shape_of}
use Rattle.place_core.specs.DeclaredObjects.{cell_of}
use Rattle.layout_plan.specs.Laws.{LaidIsDeclared, LaidHasCells, LaneIsNarrow, LockIsAddress, AddressIsAligned, AddressesRise}
use Rattle.layout_plan.proofs.Seating.{has_lane-narrow, has_lane-wide, next_at}

some_is : (x y : Declared) → Some x ≡ Some y → x ≡ y
some_is x y e = cc

-- ---- objects

laid_from : (t : Target) (after : ℕ) (xs : List Declared) (o : ℕ) (x : Declared) → slice_get xs o ≡ Some x → slice_get (objects_from t after xs) o ≡ Some (laid_at t x (slice_index (addresses_from t after xs) o))
laid_from t after [] o x e = absurd cc
laid_from t after (y ∷ ys) zero x e = ap (λ (z : Declared). Some (laid_at t z (next_address t after y.kind))) (some_is y x e)
laid_from t after (y ∷ ys) (suc o) x e = laid_from t (place_after t after y.kind) ys o x e

pub laid_is_declared : LaidIsDeclared
laid_is_declared t xs o x at =
    let here = laid_from t 0 xs o x at in let a : Object = laid_at t x (address_of t xs o) in
    (place_of-at (shape_of t xs) o a here, kind_of-at (shape_of t xs) o a here, start_of-at (shape_of t xs) o a here)

cells_from : (t : Target) (after : ℕ) (xs : List Declared) → map (λ (a : Object). record { kind = a.kind; start = a.start }) (objects_from t after xs) ≡ map cell_of xs
cells_from t after [] = refl
cells_from t after (x ∷ xs) = ap (λ (cells : List Cell). cell_of x ∷ cells) (cells_from t (place_after t after x.kind) xs)

pub laid_has_cells : LaidHasCells
laid_has_cells t xs = cells_from t 0 xs

-- ---- lanes and locks

lane_at : (t : Target) (k : Kind) (a : ℕ) → has_lane t k ≡ true → place_at t k a ≡ Lane (a / word_bytes t) (shift_at t k a) (bits_of k.width)
lane_at t k a e = ap (λ (b : Bool). if b then Lane (a / word_bytes t) (shift_at t k a) (bits_of k.width) else Parts (a % t.locks) (a / word_bytes t) (parts_for (bits_of k.width) t.word_bits) t.word_bits) e

parts_at : (t : Target) (k : Kind) (a : ℕ) → has_lane t k ≡ false → place_at t k a ≡ Parts (a % t.locks) (a / word_bytes t) (parts_for (bits_of k.width) t.word_bits) t.word_bits
parts_at t k a e = ap (λ (b : Bool). if b then Lane (a / word_bytes t) (shift_at t k a) (bits_of k.width) else Parts (a % t.locks) (a / word_bytes t) (parts_for (bits_of k.width) t.word_bits) t.word_bits) e

lane_or_parts : (t : Target) (k : Kind) → (has_lane t k ≡ true) ⊎ (has_lane t k ≡ false)
lane_or_parts t k = go (has_lane t k)
  where
    go : (b : Bool) → (b ≡ true) ⊎ (b ≡ false)
    go true = inl refl
    go false = inr refl

not_both : (p : Option Place) (w s d l f n b : ℕ) → p ≡ Some (Lane w s d) → p ≡ Some (Parts l f n b) → ⊥
not_both p w s d l f n b e g = absurd cc

same_lock : (p : Option Place) (l f n b m g o c : ℕ) → p ≡ Some (Parts l f n b) → p ≡ Some (Parts m g o c) → l ≡ m
same_lock p l f n b m g o c e h = cc

pub lane_is_narrow : LaneIsNarrow
lane_is_narrow t xs o x at =
    let here = (laid_is_declared t xs o x at).0 in let a : ℕ = address_of t xs o in (
      (λ lane. ⊎_elim
          (λ (is : has_lane t x.kind ≡ true). has_lane-narrow t x.kind is)
          (λ (no : has_lane t x.kind ≡ false). absurd (not_both (place_of (shape_of t xs) o) lane.word lane.shift lane.width _ _ _ _ lane.lane (here ∙ ap (λ (p : Place). Some p) (parts_at t x.kind a no))))
          (lane_or_parts t x.kind)),
      (λ fits. ⊎_elim
          (λ (is : has_lane t x.kind ≡ true). record { word = a / word_bytes t; shift = shift_at t x.kind a; width = bits_of x.kind.width; lane = here ∙ ap (λ (p : Place). Some p) (lane_at t x.kind a is) })
          (λ (no : has_lane t x.kind ≡ false). absurd (⊎_elim
          (λ (s : t.section ≡ true). let off = fits.0 in absurd cc)
          (λ (lt : t.word_bits < bits_of x.kind.width). let le = fits.1 in omega (arith, lt, le))
          (has_lane-wide t x.kind no)))
          (lane_or_parts t x.kind)),
    )

no_object : (t : Target) (after : ℕ) (xs : List Declared) (o : ℕ) → slice_get xs o ≡ None → slice_get (objects_from t after xs) o ≡ None
no_object t after [] o e = refl
no_object t after (y ∷ ys) zero e = absurd cc
no_object t after (y ∷ ys) (suc o) e = no_object t (place_after t after y.kind) ys o e

none_some : (p : Place) → ◌≡◌ {A = Option Place} None (Some p) → ⊥
none_some p e = absurd cc

pub lock_is_address : LockIsAddress
lock_is_address t xs o l f n b there = go (slice_get xs o) refl
  where
    go : (z : Option Declared) → slice_get xs o ≡ z → l ≡ address_of t xs o % t.locks
    go None e = absurd (none_some (Parts l f n b) (sym (ap place_in (no_object t 0 xs o e)) ∙ there))
    go (Some x) e =
        let here = (laid_is_declared t xs o x e).0 in let a : ℕ = address_of t xs o in
        ⊎_elim
        (λ (is : has_lane t x.kind ≡ true). absurd (not_both (place_of (shape_of t xs) o) _ _ _ l f n b (here ∙ ap (λ (p : Place). Some p) (lane_at t x.kind a is)) there))
        (λ (no : has_lane t x.kind ≡ false). same_lock (place_of (shape_of t xs) o) l f n b _ _ _ _ there (here ∙ ap (λ (p : Place). Some p) (parts_at t x.kind a no)))
        (lane_or_parts t x.kind)

-- ---- addresses

module _ (t : Target) (ok : IsTarget t) where
  aligned_from : (after : ℕ) (xs : List Declared) (o : ℕ) (x : Declared) → slice_get xs o ≡ Some x → slice_index (addresses_from t after xs) o % alignment_of t x.kind ≡ 0
  aligned_from after [] o x e = absurd cc
  aligned_from after (y ∷ ys) zero x e = subst (λ (z : Declared). next_address t after y.kind % alignment_of t z.kind ≡ 0) (some_is y x e) (next_at t ok after y.kind).aligned
  aligned_from after (y ∷ ys) (suc o) x e = aligned_from (place_after t after y.kind) ys o x e

  least_from : (after : ℕ) (xs : List Declared) (o : ℕ) (x : Declared) → slice_get xs o ≡ Some x → after ≤ slice_index (addresses_from t after xs) o
  least_from after [] o x e = absurd cc
  least_from after (y ∷ ys) zero x e = (next_at t ok after y.kind).least
  least_from after (y ∷ ys) (suc o) x e =
      let here = (next_at t ok after y.kind).least in let more = least_from (place_after t after y.kind) ys o x e in
      omega (arith, here, more)

  rise_from : (after : ℕ) (xs : List Declared) (o p : ℕ) (x y : Declared) → slice_get xs o ≡ Some x → slice_get xs p ≡ Some y → o < p → slice_index (addresses_from t after xs) o + bytes_of x.kind ≤ slice_index (addresses_from t after xs) p
  rise_from after [] o p x y e g lt = absurd cc
  rise_from after (z ∷ zs) o zero x y e g lt = absurd (omega (arith, lt))
  rise_from after (z ∷ zs) zero (suc p) x y e g lt = subst (λ (d : Declared). next_address t after z.kind + bytes_of d.kind ≤ slice_index (addresses_from t (place_after t after z.kind) zs) p) (some_is z x e) (least_from (place_after t after z.kind) zs p y g)
  rise_from after (z ∷ zs) (suc o) (suc p) x y e g lt = rise_from (place_after t after z.kind) zs o p x y e g (omega (arith, lt))

pub address_is_aligned : AddressIsAligned
address_is_aligned t xs o x ok at = aligned_from t ok 0 xs o x at

pub addresses_rise : AddressesRise
addresses_rise t xs o p x y ok at also lt = rise_from t ok 0 xs o p x y at also lt
