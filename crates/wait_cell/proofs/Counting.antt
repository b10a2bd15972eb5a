-- Permits and latches: what legal histories on a count keep.
use Rattle.std.proofs.Common.{◌≡◌, ◌≢◌, ℕ, ◌+◌, ◌-◌, ◌%◌, ◌<◌, ◌≤◌, ◌==◌, Bool, true, false, if◌then◌else◌, List, [], ◌∷◌, ◌++◌, refl, ap, sym, ◌∙◌, subst, arith, append_assoc, Option, Some, slice_get, inl, inr, eq-eqb, ne_eqb}
use Rattle.std.specs.Prelude.{IsSomeAnd, ◌&&◌}
use Rattle.std.specs.List.{AllByRecursion}
use Rattle.std.proofs.lemmas.Bool.{eqb-true}
use Rattle.std.proofs.lemmas.List.{append-nil}
use Rattle.std.proofs.Math.Nat.{mod-eq_of_lt}
use mathlib.Core.List.{IsPrefix}
use mathlib.Core.Logic.{dite}
use native.Mathlib.Decide.{ℕ_discrete}
use Rattle.op_table.specs.declared.kind.Kind.{Kind}
use Rattle.op_table.specs.declared.call.Call.{Call}
use Rattle.op_table.specs.declared.call.Call.TheVariants.{Load, Cas, Add}
use Rattle.op_table.specs.declared.call.Reply.{Reply}
use Rattle.op_table.specs.declared.call.Reply.TheVariants as reply
use Rattle.op_table.specs.Kind.{values_of}
use Rattle.op_table.specs.Call.{Permits, CallFits, unless_quiet}
use Rattle.place_core.specs.declared.entry.Entry.{Entry}
use Rattle.place_core.specs.Cells.{Cell, left_by, value_of, IsLawful, IsLegal}
use Rattle.place_core.specs.WordSums.{one_if}
use Rattle.place_core.proofs.CellValues.{value_of-start, value_of-own, value_of-other}
use Rattle.place_core.proofs.EntryLists.{all_front, all_rest, Each-append_left, Each-at}
use Rattle.place_core.proofs.Prefixes.{prefix_self}
use Rattle.wait_cell.specs.Counts.{IsPermitCall, is_add, is_done, given_back, taken, IsPermitHistory, ArePermitsKept, PermitsAreKept, IsLatchCall, IsLatchHistory, TellsZero, LatchNeverRises, LatchStaysOpen}

-- ---- one call

cas_step : (e n v : ℕ) (r : Reply) (w : ℕ) (b : Bool) → (v == e) ≡ b → 1 ≤ e → n ≡ e - 1 → r ≡ (if b then reply.Done v else reply.Failed v) → w ≡ (if b then n else v) → w + one_if (is_done r) ≡ v + 0
cas_step e n v r w true same one less is left = let here : v ≡ e = eqb-true v e same in let now : w ≡ n = left in subst (λ (z : Reply). w + one_if (is_done z) ≡ v + 0) (sym is) (omega arith)
cas_step e n v r w false same one less is left = let now : w ≡ v = left in subst (λ (z : Reply). w + one_if (is_done z) ≡ v + 0) (sym is) (omega arith)

load_step : (v : ℕ) (r : Reply) (w : ℕ) → r ≡ reply.Value v → w ≡ v → w + one_if (is_done r) ≡ v + 0
load_step v r w is left = subst (λ (z : Reply). w + one_if (is_done z) ≡ v + 0) (sym is) (omega arith)

quiet_not_done : (q : Bool) (v : ℕ) → is_done (unless_quiet q v) ≡ false
quiet_not_done true v = refl
quiet_not_done false v = refl

add_step : (m a v : ℕ) (q : Bool) (r : Reply) (w : ℕ) → a ≡ 1 → v + 1 < m → r ≡ unless_quiet q v → w ≡ (v + a) % m → w + one_if (is_done r) ≡ v + 1
add_step m a v q r w one room is left =
    let not_done : is_done r ≡ false = ap is_done is ∙ quiet_not_done q v in
    let small : (v + 1) % m ≡ v + 1 = mod-eq_of_lt room in
    let now : w ≡ v + 1 = left ∙ (ap (λ (k : ℕ). (v + k) % m) one ∙ small) in
    ap (λ (b : Bool). w + one_if b) not_done ∙ omega arith

add_not_done : (kind : Kind) (call : Call) (v : ℕ) (r : Reply) (w : ℕ) → is_add call ≡ true → Permits kind call v r w → is_done r ≡ false
add_not_done kind (Add a q) v r w is permitted = elim permitted [ inl h ↦ ap is_done h.0 ∙ quiet_not_done q v | inr s ↦ absurd s ]
add_not_done kind _ v r w is permitted = absurd cc

-- each exchange that is done takes one, and each addition gives one
permit_step : (kind : Kind) (call : Call) (v : ℕ) (r : Reply) (w : ℕ) → IsPermitCall call → (is_add call ≡ true → v + 1 < values_of kind) → Permits kind call v r w → w + one_if (is_done r) ≡ v + one_if (is_add call)
permit_step kind Load v r w fits room permitted = elim permitted [ inl h ↦ load_step v r w h.0 h.1 | inr s ↦ absurd s ]
permit_step kind (Cas e n) v r w fits room permitted = elim permitted [ inl h ↦ cas_step e n v r w (v == e) refl fits.0 fits.1 h.0 h.1 | inr s ↦ absurd s ]
permit_step kind (Add a q) v r w fits room permitted = elim permitted [ inl h ↦ add_step (values_of kind) a v q r w fits (room refl) h.0 h.1 | inr s ↦ absurd s ]
permit_step kind _ v r w fits room permitted = absurd fits

latch_is_permit : (call : Call) → IsLatchCall call → IsPermitCall call × (is_add call ≡ false)
latch_is_permit Load fits = (tt, refl)
latch_is_permit (Cas e n) fits = (fits, refl)
latch_is_permit _ fits = absurd fits

latch_step : (kind : Kind) (call : Call) (v : ℕ) (r : Reply) (w : ℕ) → IsLatchCall call → Permits kind call v r w → w ≤ v
latch_step kind call v r w fits permitted =
    let same = latch_is_permit call fits in let none : one_if (is_add call) ≡ 0 = ap one_if same.1 in
    let sum = permit_step kind call v r w same.0 (λ is. (let clash : true ≡ false = sym is ∙ same.1 in absurd cc)) permitted in omega arith

-- ---- the number in a reply

abbrev Tells : Reply → ℕ → Type 0
Tells r v = (TellsZero r → v ≡ 0) × (v ≡ 0 → TellsZero r)

exchange_tells : (v : ℕ) (r : Reply) (b : Bool) → r ≡ (if b then reply.Done v else reply.Failed v) → Tells r v
exchange_tells v r true is = subst (λ (z : Reply). Tells z v) (sym is) (λ h. h, λ h. h)
exchange_tells v r false is = subst (λ (z : Reply). Tells z v) (sym is) (λ h. h, λ h. h)

load_tells : (v : ℕ) (r : Reply) → r ≡ reply.Value v → Tells r v
load_tells v r is = subst (λ (z : Reply). Tells z v) (sym is) (λ h. h, λ h. h)

-- a reply to one of a latch's calls tells the value
latch_tells : (kind : Kind) (call : Call) (v : ℕ) (r : Reply) (w : ℕ) → IsLatchCall call → Permits kind call v r w → Tells r v
latch_tells kind Load v r w fits permitted = elim permitted [ inl h ↦ load_tells v r h.0 | inr s ↦ absurd s ]
latch_tells kind (Cas e n) v r w fits permitted = elim permitted [ inl h ↦ exchange_tells v r (v == e) h.0 | inr s ↦ absurd s ]
latch_tells kind _ v r w fits permitted = absurd fits

-- ---- counts

given_back-more : (o : ℕ) (H : List Entry) (x : Entry) → given_back o (H ++ x ∷ []) ≡ given_back o H + one_if ((x.object == o) && is_add x.call)
given_back-more o [] x = omega arith
given_back-more o (y ∷ H) x = let more = given_back-more o H x in omega arith

taken-more : (o : ℕ) (H : List Entry) (x : Entry) → taken o (H ++ x ∷ []) ≡ taken o H + one_if ((x.object == o) && is_done x.reply)
taken-more o [] x = omega arith
taken-more o (y ∷ H) x = let more = taken-more o H x in omega arith

module _ (cells : List Cell) (o : ℕ) (cell : Cell) (there : slice_get cells o ≡ Some cell) where
  -- the reply to an entry on the object is a permitted one
  permits_at : (G : List Entry) (x : Entry) → x.object ≡ o → IsLawful cells G x → Permits cell.kind x.call (value_of cells G o) x.reply (left_by cell.kind x (value_of cells G o))
  permits_at G x own law =
      let at : slice_get cells x.object ≡ Some cell = ap (slice_get cells) own ∙ there in
      let v : ℕ = value_of cells G x.object in
      let asked = subst (λ (z : Option Cell). IsSomeAnd z (λ (c : Cell). CallFits c.kind x.call × Permits c.kind x.call v x.reply (left_by c.kind x v))) at law in
      subst (λ (k : ℕ). Permits cell.kind x.call (value_of cells G k) x.reply (left_by cell.kind x (value_of cells G k))) own asked.1

  abbrev Sum : List Entry → Type 0
  Sum G = value_of cells G o + taken o G ≡ cell.start + given_back o G

  own_more : (G : List Entry) (x : Entry) → x.object ≡ o → cell.start < values_of cell.kind → IsLawful cells G x → IsPermitCall x.call → given_back o (G ++ x ∷ []) ≤ taken o (G ++ x ∷ []) → given_back o G ≤ taken o G → Sum G → Sum (G ++ x ∷ [])
  own_more G x own small law fits lent before sum =
      let v : ℕ = value_of cells G o in
      let w : ℕ = left_by cell.kind x v in
      let here : (x.object == o) ≡ true = eq-eqb x.object o own in
      let value : value_of cells (G ++ x ∷ []) o ≡ w = value_of-own cells G x o cell there own in
      let adds : given_back o (G ++ x ∷ []) ≡ given_back o G + one_if (is_add x.call) = given_back-more o G x ∙ ap (λ (b : Bool). given_back o G + one_if (b && is_add x.call)) here in
      let dones : taken o (G ++ x ∷ []) ≡ taken o G + one_if (is_done x.reply) = taken-more o G x ∙ ap (λ (b : Bool). taken o G + one_if (b && is_done x.reply)) here in
      let permitted_here = permits_at G x own law in
      let room : is_add x.call ≡ true → v + 1 < values_of cell.kind = λ is. (
      let no : one_if (is_done x.reply) ≡ 0 = ap one_if (add_not_done cell.kind x.call v x.reply w is permitted_here) in
      let yes : one_if (is_add x.call) ≡ 1 = ap one_if is in omega arith) in
      let step = permit_step cell.kind x.call v x.reply w fits room permitted_here in
      omega arith

  other_more : (G : List Entry) (x : Entry) → x.object ≢ o → Sum G → Sum (G ++ x ∷ [])
  other_more G x other sum =
      let here : (x.object == o) ≡ false = ne_eqb x.object o other in
      let value : value_of cells (G ++ x ∷ []) o ≡ value_of cells G o = value_of-other cells G x o other in
      let adds : given_back o (G ++ x ∷ []) ≡ given_back o G + 0 = given_back-more o G x ∙ ap (λ (b : Bool). given_back o G + one_if (b && is_add x.call)) here in
      let dones : taken o (G ++ x ∷ []) ≡ taken o G + 0 = taken-more o G x ∙ ap (λ (b : Bool). taken o G + one_if (b && is_done x.reply)) here in
      omega arith

  -- the sum holds at the end where it holds after the first entries
  sum_on : (H : List Entry) → cell.start < values_of cell.kind → IsLegal cells H → IsPermitHistory o H → (G K : List Entry) → G ++ K ≡ H → Sum G → Sum H
  sum_on H small legal h G [] all sum = subst Sum (sym (append-nil G) ∙ all) sum
  sum_on H small legal h G (x ∷ K) all sum =
      let law : IsLawful cells G x = Each-at (IsLawful cells) G x K (subst (IsLegal cells) (sym all) legal) in
      let fits = all_rest (λ (y : Entry). y.object ≡ o → IsPermitCall y.call) G (x ∷ K) (subst (AllByRecursion (λ (y : Entry). y.object ≡ o → IsPermitCall y.call)) (sym all) h.calls) in
      let rest : (G ++ x ∷ []) ++ K ≡ H = append_assoc G (x ∷ []) K ∙ all in
      let more : Sum (G ++ x ∷ []) = dite (ℕ_discrete x.object o)
      (λ own. own_more G x own small law (fits.0 own) (h.lent (G ++ x ∷ []) (K, rest)) (h.lent G (x ∷ K, all)) sum)
      (λ other. other_more G x other sum) in
      sum_on H small legal h (G ++ x ∷ []) K rest more

  -- ---- latches

  fall_by_one : (G : List Entry) (x : Entry) → IsLawful cells G x → (x.object ≡ o → IsLatchCall x.call) → value_of cells (G ++ x ∷ []) o ≤ value_of cells G o
  fall_by_one G x law fits =
      let v : ℕ = value_of cells G o in
      let w : ℕ = left_by cell.kind x v in
      dite (ℕ_discrete x.object o)
      (λ own. (let value : value_of cells (G ++ x ∷ []) o ≡ w = value_of-own cells G x o cell there own in
      let less = latch_step cell.kind x.call v x.reply w (fits own) (permits_at G x own law) in omega arith))
      (λ other. (let value = value_of-other cells G x o other in omega arith))

  falls : (H K : List Entry) → IsLegal cells (H ++ K) → IsLatchHistory o (H ++ K) → value_of cells (H ++ K) o ≤ value_of cells H o
  falls H [] legal calls = let same : value_of cells (H ++ []) o ≡ value_of cells H o = ap (λ (l : List Entry). value_of cells l o) (append-nil H) in omega arith
  falls H (x ∷ K) legal calls =
      let split : (H ++ x ∷ []) ++ K ≡ H ++ x ∷ K = append_assoc H (x ∷ []) K in
      let fits = all_rest (λ (y : Entry). y.object ≡ o → IsLatchCall y.call) H (x ∷ K) calls in
      let first = fall_by_one H x (Each-at (IsLawful cells) H x K legal) fits.0 in
      let later = falls (H ++ x ∷ []) K (subst (IsLegal cells) (sym split) legal) (subst (IsLatchHistory o) (sym split) calls) in
      let same : value_of cells ((H ++ x ∷ []) ++ K) o ≡ value_of cells (H ++ x ∷ K) o = ap (λ (l : List Entry). value_of cells l o) split in
      omega arith

  tells_at : (G : List Entry) (x : Entry) → x.object ≡ o → IsLegal cells (G ++ x ∷ []) → IsLatchHistory o (G ++ x ∷ []) → Tells x.reply (value_of cells G o)
  tells_at G x own legal calls =
      let fits = all_rest (λ (y : Entry). y.object ≡ o → IsLatchCall y.call) G (x ∷ []) calls in
      latch_tells cell.kind x.call (value_of cells G o) x.reply (left_by cell.kind x (value_of cells G o)) (fits.0 own) (permits_at G x own (Each-at (IsLawful cells) G x [] legal))

pub permits_are_kept : PermitsAreKept
permits_are_kept cells o cell H there small legal h =
    let start : value_of cells [] o ≡ cell.start = value_of-start cells o cell there in
    let sum = sum_on cells o cell there H small legal h [] H refl (ap (λ (k : ℕ). k + 0) start) in
    let lent : given_back o H ≤ taken o H = h.lent H (prefix_self H) in
    record { sum = sum; most = omega arith; out = omega arith }

pub latch_never_rises : LatchNeverRises
latch_never_rises cells o cell H K there legal calls = falls cells o cell there H K legal calls

-- a history and its calls in front of more
front : (cells : List Cell) (o : ℕ) (H K : List Entry) → IsLegal cells (H ++ K) × IsLatchHistory o (H ++ K) → IsLegal cells H × IsLatchHistory o H
front cells o H K h = (Each-append_left (IsLawful cells) H K h.0, all_front (λ (y : Entry). y.object ≡ o → IsLatchCall y.call) H K h.1)

pub latch_stays_open : LatchStaysOpen
latch_stays_open cells o cell H G K x y there own other legal calls zero =
    let last = front cells o (((H ++ x ∷ []) ++ G) ++ y ∷ []) K (legal, calls) in
    let before = front cells o ((H ++ x ∷ []) ++ G) (y ∷ []) last in
    let first = front cells o (H ++ x ∷ []) G before in
    let none : value_of cells H o ≡ 0 = (tells_at cells o cell there H x own first.0 first.1).0 zero in
    let fell = falls cells o cell there H (x ∷ []) first.0 first.1 in
    let later = falls cells o cell there (H ++ x ∷ []) G before.0 before.1 in
    let still : value_of cells ((H ++ x ∷ []) ++ G) o ≡ 0 = omega arith in
    (tells_at cells o cell there ((H ++ x ∷ []) ++ G) y other last.0 last.1).1 still
