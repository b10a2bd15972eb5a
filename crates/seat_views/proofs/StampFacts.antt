-- The stamps of locks, and how many entries are on a lock's objects.
use Rattle.std.proofs.Common.{◌≡◌, ℕ, ◌≤◌, ◌<◌, ◌+◌, ◌*◌, Bool, if◌then◌else◌, List, [], ◌∷◌, ◌++◌, Option, Some, refl, ap, sym, ◌∙◌, subst, arith, eq-eqb}
use mathlib.Core.Option.{some}
use lib.ListN.{get_elem?}
use Rattle.atomic_table.specs.Table.{State}
use Rattle.place_core.specs.declared.entry.Entry.{Entry}
use Rattle.place_core.specs.declared.places.Place.{Place}
use Rattle.place_core.specs.declared.places.Place.TheVariants.{Parts as In}
use Rattle.place_core.specs.declared.shape.Shape.{Shape}
use Rattle.place_core.specs.Histories.{made_by, CallersWithin}
use Rattle.place_core.specs.Shapes.{place_of}
use Rattle.place_core.proofs.EntryLists.{all_map, made_by-append, made_by-whole, CallersWithin-all, CallersWithin-append}
use Rattle.seat_views.specs.declared.view.Opening.{Opening}
use Rattle.seat_views.specs.declared.view.Role.TheVariants as role
use Rattle.seat_views.specs.declared.view.View.{View}
use Rattle.seat_views.specs.Places.{lock_in}
use Rattle.seat_views.specs.Stamps.{is_under, entries_under, IsStampIn}
use Rattle.seat_views.specs.Rule.{caller_of, ArenaHolds}
use Rattle.seat_views.proofs.Histories.{pass_known, shape_is}

-- ---- entries under a lock

regroup : (c s a b : ℕ) → s ≡ a + b → c + s ≡ (c + a) + b
regroup c s a b e = omega arith

zero_more : (n : ℕ) → n ≡ 0 + n
zero_more n = omega arith

pub under_append : (S : Shape) (l : ℕ) (H K : List Entry)
    → entries_under S l (H ++ K) ≡ entries_under S l H + entries_under S l K
unfolding entries_under
under_append S l [] K = zero_more (entries_under S l K)
under_append S l (x ∷ H) K = regroup (if is_under l (place_of S x.object) then 1 else 0) (entries_under S l (H ++ K))
    (entries_under S l H) (entries_under S l K) (under_append S l H K)

under_one : (S : Shape) (l : ℕ) (x : Entry) (f n b : ℕ) → place_of S x.object ≡ Some (In l f n b)
    → entries_under S l (x ∷ []) ≡ 1
unfolding entries_under
under_one S l x f n b place = ap (λ (p : Option Place). (if is_under l p then 1 else 0) + 0) place
    ∙ ap (λ (c : Bool). (if c then 1 else 0) + 0) (eq-eqb l l refl)

pub under_none : (S : Shape) (l : ℕ) → entries_under S l [] ≡ 0
unfolding entries_under
under_none S l = refl

-- one more on an object under the lock
pub under_own : (S : Shape) (l : ℕ) (H : List Entry) (x : Entry) (f n b : ℕ) → place_of S x.object ≡ Some (In l f n b)
    → entries_under S l (H ++ x ∷ []) ≡ entries_under S l H + 1
under_own S l H x f n b place = under_append S l H (x ∷ [])
    ∙ ap (λ (z : ℕ). entries_under S l H + z) (under_one S l x f n b place)

-- a longer history has no fewer
pub under_more : (S : Shape) (H K : List Entry) (l : ℕ) → entries_under S l H ≤ entries_under S l (H ++ K)
under_more S H K l = go (entries_under S l (H ++ K)) (entries_under S l H) (entries_under S l K) (under_append S l H K)
  where
    go : (s a b : ℕ) → s ≡ a + b → a ≤ s
    go s a b e = omega arith

pub under_same : (S : Shape) (H : List Entry) (l : ℕ) → entries_under S l H ≤ entries_under S l H
under_same S H l = go (entries_under S l H)
  where
    go : (a : ℕ) → a ≤ a
    go a = omega arith

-- ---- the further history of a pass

module _ {E : Type 0} where
  append_none : (xs ys : List E) → xs ++ ys ≡ xs → ys ≡ []
  append_none [] ys e = e
  append_none (x ∷ xs) ys e = let tail : xs ++ ys ≡ xs = cc (e) in append_none xs ys tail

  -- no entry there is the pass's own
  none_between : (caller : E → ℕ) (seen between mine : List E) (c : ℕ) → made_by caller (seen ++ between) c ≡ mine
      → made_by caller seen c ≡ mine → made_by caller between c ≡ []
  none_between caller seen between mine c all own = append_none (made_by caller seen c) (made_by caller between c)
      (sym (made_by-append caller seen between c) ∙ (all ∙ sym own))

  -- where there is no other pass there is none at all
  none_beside : (caller : E → ℕ) (seen between : List E) (c count : ℕ) → CallersWithin caller count (seen ++ between)
      → c ≡ 0 → count ≡ 0 → made_by caller between c ≡ [] → between ≡ []
  none_beside caller seen between c count within zero_is none none_own =
      let apart = (CallersWithin-append caller count seen between).0 within in
      let later = (CallersWithin-all caller count between).0 apart.1 in
      let all_own = all_map (λ x. caller x ≤ count) (λ x. caller x ≡ c) between (λ x le. omega arith) later in
      sym (made_by-whole caller between c all_own) ∙ none_own

-- the lock's stamp, as a step of the pass tells it
pub stamp_there : (k : Opening) (s : State (Unit {0}) View) (r : ArenaHolds k s) (id : ℕ) (v : View)
    → get_elem? s.views id ≡ some v → v.role ≡ role.Pass → (o l f n b q : ℕ) → place_of k.shape o ≡ Some (In l f n b)
    → l < k.shape.locks → q ≡ (r.locks l).stamp
    → IsStampIn v.shape (lock_in (place_of v.shape o)) k.first_stamp v.number v.given v.seen q
stamp_there k s r id v at pass o l f n b q place inside is =
    let S : Shape = k.shape in
    let old = r.parts in
    let history = r.history in
    let passes = history.passes in
    let known = pass_known S r.log r.count r.owner s.views r.history id v at pass in
    let shaped : v.shape ≡ S = shape_is S r.log r.count r.owner s.views r.history id v at pass in
    let lock_at : lock_in (place_of v.shape o) ≡ l = (λ t. lock_in (place_of (shaped t) o)) ∙ ap lock_in place in
    let between : List Entry = known.prefix.0 in
    let whole : v.seen ++ between ≡ r.log = known.prefix.1 in
    let all : made_by caller_of (v.seen ++ between) v.number ≡ v.mine =
    ap (λ (z : List Entry). made_by caller_of z v.number) whole ∙ known.all in
    let others : made_by caller_of between v.number ≡ [] =
    none_between caller_of v.seen between v.mine v.number all known.own in
    let callers : CallersWithin caller_of r.count (v.seen ++ between) =
    subst (CallersWithin caller_of r.count) (sym whole) passes.callers in record {
      between = between;
      others = others;
      alone = λ zero_is none. let root = known.root zero_is in
          none_beside caller_of v.seen between v.number r.count callers zero_is (sym root.given ∙ none) others;
      least = subst (λ (z : ℕ). k.first_stamp ≤ z) (sym is) (old.from_first l inside);
      most = subst (λ (z : ℕ × Shape × ℕ × List Entry). z.0 ≤ k.first_stamp + 2 * entries_under z.1 z.2 z.3)
          (λ t. (sym is t, sym shaped t, sym lock_at t, sym whole t)) (old.upto_first l inside);
    }
