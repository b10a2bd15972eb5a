-- What cells without a fault are.
use Rattle.std.proofs.Common.{◌≡◌, ℕ, zero, suc, ◌+◌, ◌*◌, ◌%◌, ◌^◌, ◌==◌, ◌<◌, ◌≤◌, Bool, true, false, not, List, [], ◌∷◌, Option, Some, None, slice_get, refl, subst, arith, if◌then◌else◌}
use Rattle.std.specs.Prelude.{nat_lt}
use Rattle.std.proofs.lemmas.Bool.{eqb-true, ltb-true, ltb-false}
use Rattle.target_desc.specs.declared.target.Target.{Target}
use Rattle.sized_calls.specs.declared.cells.Cell.{Cell}
use Rattle.sized_calls.specs.declared.cells.RegionFault.{RegionFault}
use Rattle.sized_calls.specs.declared.cells.RegionFault.TheVariants.{BadSize, Unaligned, NotAfter, TooFar, BadStart}
use Rattle.sized_calls.specs.Sizes.{is_size}
use Rattle.sized_calls.specs.Cells.{cell_end, most_bytes, cell_fault, or_else, faults_from, last_end}

-- ---- one cell

pub record IsSound (t : Target) (end : ℕ) (c : Cell) : Type 0 where
  pub size : is_size c.size ≡ true
  pub aligned : c.address % c.size ≡ 0
  pub after : end ≤ c.address
  pub near : cell_end c ≤ most_bytes t
  pub start : c.start < 2 ^ (8 * c.size)

passed : (b : Bool) (fault : RegionFault) (later : Option RegionFault) → (if b then Some fault else later) ≡ None → (b ≡ false) × (later ≡ None)
passed true fault later e = absurd cc
passed false fault later e = (refl, e)

held : (b : Bool) → not b ≡ false → b ≡ true
held true e = refl
held false e = absurd cc

pub sound : (t : Target) (i end : ℕ) (c : Cell) → cell_fault t i end c ≡ None → IsSound t end c
sound t i end c e =
    let size = passed (not (is_size c.size)) (BadSize i) _ e in
    let aligned = passed (not (c.address % c.size == 0)) (Unaligned i) _ size.1 in
    let after = passed (nat_lt c.address end) (NotAfter i) _ aligned.1 in
    let near = passed (nat_lt (most_bytes t) (cell_end c)) (TooFar i) _ after.1 in
    let start = passed (not (nat_lt c.start (2 ^ (8 * c.size)))) (BadStart i) _ near.1 in
    record {
      size = held (is_size c.size) size.0;
      aligned = eqb-true (c.address % c.size) 0 (held (c.address % c.size == 0) aligned.0);
      after = ltb-false c.address end after.0;
      near = ltb-false (most_bytes t) (cell_end c) near.0;
      start = ltb-true c.start (2 ^ (8 * c.size)) (held (nat_lt c.start (2 ^ (8 * c.size))) start.0);
    }

-- ---- all cells

pub split : (first later : Option RegionFault) → or_else first later ≡ None → (first ≡ None) × (later ≡ None)
split None later e = (refl, e)
split (Some fault) later e = absurd cc

inside : {A : Type 0} (x y : A) → Some x ≡ Some y → x ≡ y
inside x y e = cc

module _ (t : Target) where
  pub first_is : (i end : ℕ) (c : Cell) (cs : List Cell) → faults_from t i end (c ∷ cs) ≡ None → IsSound t end c
  first_is i end c cs e = sound t i end c (split (cell_fault t i end c) (faults_from t (i + 1) (cell_end c) cs) e).0

  pub others_are : (i end : ℕ) (c : Cell) (cs : List Cell) → faults_from t i end (c ∷ cs) ≡ None → faults_from t (i + 1) (cell_end c) cs ≡ None
  others_are i end c cs e = (split (cell_fault t i end c) (faults_from t (i + 1) (cell_end c) cs) e).1

  pub last_least : (i end : ℕ) (cells : List Cell) → faults_from t i end cells ≡ None → end ≤ last_end end cells
  last_least i end [] e = omega arith
  last_least i end (c ∷ cs) e =
      let here = (first_is i end c cs e).after in let more = last_least (i + 1) (cell_end c) cs (others_are i end c cs e) in
      omega (arith, here, more)

  pub last_near : (i end : ℕ) (cells : List Cell) → faults_from t i end cells ≡ None → end ≤ most_bytes t → last_end end cells ≤ most_bytes t
  last_near i end [] e le = le
  last_near i end (c ∷ cs) e le = last_near (i + 1) (cell_end c) cs (others_are i end c cs e) (first_is i end c cs e).near

  -- each cell is sound, and ends with the last or before
  pub each : (i end : ℕ) (cells : List Cell) → faults_from t i end cells ≡ None → (o : ℕ) (c : Cell) → slice_get cells o ≡ Some c → IsSound t end c × (cell_end c ≤ last_end end cells)
  each i end [] e o c at = absurd cc
  each i end (d ∷ cs) e zero c at =
      subst (λ (x : Cell). IsSound t end x × (cell_end x ≤ last_end (cell_end d) cs)) (inside d c at)
      (first_is i end d cs e, last_least (i + 1) (cell_end d) cs (others_are i end d cs e))
  each i end (d ∷ cs) e (suc o) c at =
      let here = (first_is i end d cs e).after in
      let more = each (i + 1) (cell_end d) cs (others_are i end d cs e) o c at in
      let s = more.0 in
      let after = s.after in
      (record { size = s.size; aligned = s.aligned; after = omega (arith, here, after); near = s.near; start = s.start }, more.1)

  -- a cell ends where a later one begins, or before
  pub rise : (i end : ℕ) (cells : List Cell) → faults_from t i end cells ≡ None → (o p : ℕ) (c d : Cell) → o < p → slice_get cells o ≡ Some c → slice_get cells p ≡ Some d → cell_end c ≤ d.address
  rise i end [] e o p c d lt at bt = absurd cc
  rise i end (x ∷ cs) e o zero c d lt at bt = absurd (omega (arith, lt))
  rise i end (x ∷ cs) e zero (suc p) c d lt at bt =
      subst (λ (y : Cell). cell_end y ≤ d.address) (inside x c at) (each (i + 1) (cell_end x) cs (others_are i end x cs e) p d bt).0.after
  rise i end (x ∷ cs) e (suc o) (suc p) c d lt at bt = rise (i + 1) (cell_end x) cs (others_are i end x cs e) o p c d (omega (arith, lt)) at bt
