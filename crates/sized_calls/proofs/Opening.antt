-- A region that was opened, and one that is called.
use Rattle.std.proofs.Common.{◌≡◌, ℕ, ◌<◌, true, false, List, length, get_or, Some, None, refl, ap, sym, ◌∙◌, subst, arith}
use Rattle.std.proofs.lemmas.Option.{slice_get_within}
use Rattle.op_table.specs.declared.kind.Kind.{Kind}
use Rattle.op_table.specs.declared.call.Call.{Call}
use Rattle.op_table.specs.Call.{CallFits}
use Rattle.target_desc.specs.declared.target.Target.{Target}
use Rattle.place_core.specs.declared.shape.Shape.{Shape}
use Rattle.place_core.specs.Shapes.{kind_of, IsShape}
use Rattle.seat_views.specs.States.{ArenaState, PassState, Opens}
use Rattle.sized_calls.specs.declared.cells.Cell.{Cell}
use Rattle.sized_calls.specs.declared.operation.SizedCall.{SizedCall}
use Rattle.sized_calls.specs.declared.operation.SizedFault.TheVariants.{BadSize, BadValue, BadOrder}
use Rattle.sized_calls.specs.Cells.{first_fault, kind_of_size, cell_shape}
use Rattle.sized_calls.specs.Calls.{call_of, accepts, sized_fault, IsCellAt}
use Rattle.sized_calls.specs.Regions.{RegionState, IsRegion, OpensCells}
use Rattle.sized_calls.proofs.Finding.{at_index}
use Rattle.sized_calls.proofs.Admitting.{size_fault, value_fault, order_fault, no_fault, owes_fit}

pub opened : (t : Target) (cells kept : List Cell) (shape : Shape) (a : ArenaState) (root : PassState) → first_fault t cells ≡ None → shape ≡ cell_shape t cells → IsShape shape → kept ≡ cells → Opens shape 0 a root
    → OpensCells t cells (record { target = t; cells = kept; arena = a }) root
opened t cells kept shape a root none is valid same opens = record {
  none = none;
  target = refl;
  cells_are = same;
  valid = subst IsShape is valid;
  opens = subst (λ (s : Shape). Opens s 0 a root) is opens;
}

-- the cell that is read is the one that has the address
cell_is : (cells : List Cell) (a o : ℕ) (is : IsCellAt cells a o) (x : Cell) → x ≡ get_or cells o x → x ≡ is.cell
cell_is cells a o is x read =
    let lt : o < length cells = slice_get_within cells o is.cell is.at in
    let some : Some (get_or cells o x) ≡ Some is.cell = sym (at_index cells o x lt) ∙ is.at in
    let same : get_or cells o x ≡ is.cell = cc in
    read ∙ same

module _ (s : RegionState) (kept : IsRegion s) (c : SizedCall) (o : ℕ) (is : IsCellAt s.cells c.address o) where
  pub few : o < 65536
  few = let lt = slice_get_within s.cells o is.cell is.at in let most = kept.most in omega (arith, lt, most)

  module _ (x : Cell) (read : x ≡ get_or s.cells o x) where
    size_is : x.size ≡ is.cell.size
    size_is = ap (λ (y : Cell). y.size) (cell_is s.cells c.address o is x read)

    pub other_size : (x.size ≡ c.size → ⊥) → sized_fault s.cells c ≡ Some BadSize
    other_size other = size_fault s.target s.cells kept.none c o is (λ e. other (size_is ∙ e))

    module _ (same : x.size ≡ c.size) (k : Kind) (m : Call) (kind : k ≡ kind_of_size c.size) (call : m ≡ call_of c) where
      fits_too : CallFits k m → CallFits (kind_of_size c.size) (call_of c)
      fits_too fits = subst (λ (z : Kind × Call). CallFits z.0 z.1) (λ i. (kind i, call i)) fits

      pub other_value : (CallFits k m → ⊥) → sized_fault s.cells c ≡ Some BadValue
      other_value unfits = value_fault s.target s.cells kept.none c o is (sym size_is ∙ same) (λ fits. unfits (subst (λ (z : Kind × Call). CallFits z.0 z.1) (λ i. (sym kind i, sym call i)) fits))

      pub other_order : CallFits k m → accepts c.op c.order c.failure ≡ false → sized_fault s.cells c ≡ Some BadOrder
      other_order fits refused = order_fault s.target s.cells kept.none c o is (sym size_is ∙ same) (fits_too fits) refused

      pub none_left : CallFits k m → accepts c.op c.order c.failure ≡ true → sized_fault s.cells c ≡ None
      none_left fits accepted = no_fault s.target s.cells kept.none c o is (sym size_is ∙ same) (fits_too fits) accepted

-- an admitted call fits the object's kind
pub fit_owed : (s : RegionState) → IsRegion s → (c : SizedCall) (o : ℕ) (m : Call) (shape : Shape) → shape ≡ s.arena.shape → m ≡ call_of c → sized_fault s.cells c ≡ None → IsCellAt s.cells c.address o → CallFits (kind_of shape o) m
fit_owed s kept c o m shape is call none at =
    subst (λ (z : Shape × Call). CallFits (kind_of z.0 o) z.1) (λ i. (sym (is ∙ kept.shape) i, sym call i)) (owes_fit s.target s.cells kept.none c o at none)
