-- Which calls are admitted, and what they owe.
use Rattle.std.proofs.Common.{◌≡◌, inl, ℕ, ◌*◌, ◌^◌, ◌==◌, ◌<◌, Bool, true, false, not, List, [], ◌∷◌, length, Option, Some, None, refl, ap, sym, ◌∙◌, subst, arith, if◌then◌else◌}
use Rattle.std.specs.Prelude.{nat_lt, ◌≢◌}
use Rattle.std.specs.List.{AllByRecursion, list_all}
use Rattle.std.proofs.lemmas.Bool.{eqb-true, eq-eqb, ne_eqb, lt-ltb, ltb-true, and_from, and_parts}
use Rattle.std.proofs.lemmas.Option.{slice_get_within}
use Rattle.op_table.specs.declared.kind.Kind.{Kind}
use Rattle.op_table.specs.declared.kind.Class.TheVariants as class
use Rattle.op_table.specs.Kind.{values_of}
use Rattle.op_table.specs.Call.{CallFits}
use Rattle.target_desc.specs.declared.target.Target.{Target}
use Rattle.place_core.specs.Shapes.{kind_of}
use Rattle.place_core.proofs.ShapeFacts.{kind_of-at}
use Rattle.sized_calls.specs.declared.cells.Cell.{Cell}
use Rattle.sized_calls.specs.declared.operation.SizedOp.{SizedOp}
use Rattle.sized_calls.specs.declared.operation.SizedOp.TheVariants.{Load, Store, Exchange, CompareExchange, FetchAdd, FetchSub, FetchAnd, FetchOr, FetchXor, FetchNand, AddFetch, SubFetch, AndFetch, OrFetch, XorFetch, NandFetch}
use Rattle.sized_calls.specs.declared.operation.SizedCall.{SizedCall}
use Rattle.sized_calls.specs.declared.operation.SizedFault.{SizedFault}
use Rattle.sized_calls.specs.declared.operation.SizedFault.TheVariants.{NoCell, BadSize, BadValue, BadOrder}
use Rattle.sized_calls.specs.Sizes.{is_size}
use Rattle.sized_calls.specs.Cells.{first_fault, kind_of_size, cell_object, cell_shape}
use Rattle.sized_calls.specs.Calls.{call_with, call_of, used_values, values_fit, accepts, cell_with, fault_at, sized_fault, IsCellAt}
use Rattle.sized_calls.proofs.CellKinds.{kind_values}
use Rattle.sized_calls.proofs.CellShapes.{count_is, object_is}
use Rattle.sized_calls.proofs.Soundness.{each}
use Rattle.sized_calls.proofs.Finding.{found}

-- ---- values

not_ptr : class.Int ≢ class.Ptr
not_ptr e = cc

loud_if_ptr : class.Int ≡ class.Ptr → false ≡ false
loud_if_ptr e = refl

all_below : (m : ℕ) (vs : List ℕ) → list_all (λ v. nat_lt v m) vs ≡ true → AllByRecursion (λ v. v < m) vs
all_below m [] e = tt
all_below m (v ∷ vs) e = let parts = and_parts (nat_lt v m) (list_all (λ v. nat_lt v m) vs) e in (ltb-true v m parts.0, all_below m vs parts.1)

told_below : (m : ℕ) (vs : List ℕ) → AllByRecursion (λ v. v < m) vs → list_all (λ v. nat_lt v m) vs ≡ true
told_below m [] all = refl
told_below m (v ∷ vs) all = and_from (nat_lt v m) (list_all (λ v. nat_lt v m) vs) (lt-ltb v m all.0) (told_below m vs all.1)

to_fits : (n : ℕ) (op : SizedOp) (a b : ℕ) → AllByRecursion (λ v. v < values_of (kind_of_size n)) (used_values op a b) → CallFits (kind_of_size n) (call_with op a b)
to_fits n Load a b all = tt
to_fits n Store a b all = all.0
to_fits n Exchange a b all = all.0
to_fits n CompareExchange a b all = (all.0, all.1.0)
to_fits n FetchAdd a b all = (all.0, inl refl)
to_fits n FetchSub a b all = (all.0, inl refl)
to_fits n FetchAnd a b all = (all.0, loud_if_ptr)
to_fits n FetchOr a b all = (all.0, loud_if_ptr)
to_fits n FetchXor a b all = (all.0, loud_if_ptr)
to_fits n FetchNand a b all = (all.0, not_ptr)
to_fits n AddFetch a b all = (all.0, refl)
to_fits n SubFetch a b all = (all.0, refl)
to_fits n AndFetch a b all = (all.0, not_ptr)
to_fits n OrFetch a b all = (all.0, not_ptr)
to_fits n XorFetch a b all = (all.0, not_ptr)
to_fits n NandFetch a b all = (all.0, not_ptr)

from_fits : (n : ℕ) (op : SizedOp) (a b : ℕ) → CallFits (kind_of_size n) (call_with op a b) → AllByRecursion (λ v. v < values_of (kind_of_size n)) (used_values op a b)
from_fits n Load a b fits = tt
from_fits n Store a b fits = (fits, tt)
from_fits n Exchange a b fits = (fits, tt)
from_fits n CompareExchange a b fits = (fits.0, (fits.1, tt))
from_fits n FetchAdd a b fits = (fits.0, tt)
from_fits n FetchSub a b fits = (fits.0, tt)
from_fits n FetchAnd a b fits = (fits.0, tt)
from_fits n FetchOr a b fits = (fits.0, tt)
from_fits n FetchXor a b fits = (fits.0, tt)
from_fits n FetchNand a b fits = (fits.0, tt)
from_fits n AddFetch a b fits = (fits.0, tt)
from_fits n SubFetch a b fits = (fits.0, tt)
from_fits n AndFetch a b fits = (fits.0, tt)
from_fits n OrFetch a b fits = (fits.0, tt)
from_fits n XorFetch a b fits = (fits.0, tt)
from_fits n NandFetch a b fits = (fits.0, tt)

-- the values that a call uses fit where the kind of its size has the call
values_fits : (c : SizedCall) → is_size c.size ≡ true → values_fit c ≡ true → CallFits (kind_of_size c.size) (call_of c)
values_fits c size e = to_fits c.size c.op c.a c.b (subst (λ (m : ℕ). AllByRecursion (λ v. v < m) (used_values c.op c.a c.b)) (sym (kind_values c.size size)) (all_below (2 ^ (8 * c.size)) (used_values c.op c.a c.b) e))

fits_values : (c : SizedCall) → is_size c.size ≡ true → CallFits (kind_of_size c.size) (call_of c) → values_fit c ≡ true
fits_values c size fits = told_below (2 ^ (8 * c.size)) (used_values c.op c.a c.b) (subst (λ (m : ℕ). AllByRecursion (λ v. v < m) (used_values c.op c.a c.b)) (kind_values c.size size) (from_fits c.size c.op c.a c.b fits))

-- ---- causes

unfit : (b : Bool) → (b ≡ true → ⊥) → b ≡ false
unfit true e = absurd (e refl)
unfit false e = refl

module _ (t : Target) (cells : List Cell) (none : first_fault t cells ≡ None) (c : SizedCall) where
  pub no_cell_fault : cell_with cells c.address ≡ None → sized_fault cells c ≡ Some NoCell
  no_cell_fault e = ap (λ (x : Option Cell). fault_at x c) e

  module _ (o : ℕ) (is : IsCellAt cells c.address o) where
    at_cell : sized_fault cells c ≡ fault_at (Some is.cell) c
    at_cell = ap (λ (x : Option Cell). fault_at x c) (found t cells none o c.address is)

    is_size_there : is_size is.cell.size ≡ true
    is_size_there = (each t 0 0 cells none o is.cell is.at).0.size

    by_tests : (size values orders : Bool) → (is.cell.size == c.size) ≡ size → values_fit c ≡ values → accepts c.op c.order c.failure ≡ orders
        → sized_fault cells c ≡ (if not size then Some BadSize else if not values then Some BadValue else if not orders then Some BadOrder else None)
    by_tests size values orders e f g = at_cell ∙ ap (λ (x : Bool × Bool × Bool). if not x.0 then Some BadSize else if not x.1 then Some BadValue else if not x.2 then Some BadOrder else None) (λ i. (e i, f i, g i))

    pub size_fault : (is.cell.size ≡ c.size → ⊥) → sized_fault cells c ≡ Some BadSize
    size_fault other = by_tests false (values_fit c) (accepts c.op c.order c.failure) (ne_eqb is.cell.size c.size other) refl refl

    pub value_fault : is.cell.size ≡ c.size → (CallFits (kind_of_size c.size) (call_of c) → ⊥) → sized_fault cells c ≡ Some BadValue
    value_fault same unfits = by_tests true false (accepts c.op c.order c.failure) (eq-eqb is.cell.size c.size same) (unfit (values_fit c) (λ e. unfits (values_fits c (subst (λ (n : ℕ). is_size n ≡ true) same is_size_there) e))) refl

    pub order_fault : is.cell.size ≡ c.size → CallFits (kind_of_size c.size) (call_of c) → accepts c.op c.order c.failure ≡ false → sized_fault cells c ≡ Some BadOrder
    order_fault same fits refused = by_tests true true false (eq-eqb is.cell.size c.size same) (fits_values c (subst (λ (n : ℕ). is_size n ≡ true) same is_size_there) fits) refused

    pub no_fault : is.cell.size ≡ c.size → CallFits (kind_of_size c.size) (call_of c) → accepts c.op c.order c.failure ≡ true → sized_fault cells c ≡ None
    no_fault same fits accepted = by_tests true true true (eq-eqb is.cell.size c.size same) (fits_values c (subst (λ (n : ℕ). is_size n ≡ true) same is_size_there) fits) accepted

    -- ---- what an admitted call owes

    passed : (b : Bool) (fault : SizedFault) (later : Option SizedFault) → (if not b then Some fault else later) ≡ None → (b ≡ true) × (later ≡ None)
    passed true fault later e = (refl, e)
    passed false fault later e = absurd cc

    admitted_size : sized_fault cells c ≡ None → (is.cell.size ≡ c.size) × (values_fit c ≡ true)
    admitted_size e =
        let whole : fault_at (Some is.cell) c ≡ None = sym at_cell ∙ e in
        let size = passed (is.cell.size == c.size) BadSize _ whole in
        let values = passed (values_fit c) BadValue _ size.1 in
        (eqb-true is.cell.size c.size size.0, values.0)

    object_kind : kind_of (cell_shape t cells) o ≡ kind_of_size is.cell.size
    object_kind = kind_of-at (cell_shape t cells) o (cell_object t is.cell) (object_is t cells o is.cell is.at)

    pub owes_fit : sized_fault cells c ≡ None → CallFits (kind_of (cell_shape t cells) o) (call_of c)
    owes_fit e =
        let a = admitted_size e in
        let kind : kind_of_size c.size ≡ kind_of (cell_shape t cells) o = sym (object_kind ∙ ap kind_of_size a.0) in
        subst (λ (k : Kind). CallFits k (call_of c)) kind (values_fits c (subst (λ (n : ℕ). is_size n ≡ true) a.0 is_size_there) a.1)

    pub owes_object : o < length (cell_shape t cells).objects
    owes_object = let within = slice_get_within cells o is.cell is.at in let count = count_is t cells in omega (arith, within, count)
