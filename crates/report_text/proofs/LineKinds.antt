-- The kinds of objects, and lines that can be printed.
use Rattle.std.proofs.Common.{◌≡◌, ℕ, zero, suc, List, [], ◌∷◌, ap}
use Rattle.std.specs.Prelude.{Some, slice_get, IsSomeAnd}
use Rattle.std.specs.List.{AllByRecursion}
use Rattle.op_table.specs.Kind.{IsKind}
use Rattle.place_core.specs.declared.name.Declared.{Declared}
use Rattle.place_core.specs.declared.script.Line.{Line}
use Rattle.place_core.specs.DeclaredObjects.{IsDeclared}
use Rattle.work_lang.specs.Workload.{HasLine, LineFits}
use Rattle.work_lang.specs.Reading.{kind_in, kind_at}

pub kind_read : (objects : List Declared) (o : ℕ) (d : Declared) → slice_get objects o ≡ Some d → kind_at objects o ≡ d.kind
kind_read objects o d at = ap kind_in at

-- the object of a line that fits has a kind
pub line_said : (objects : List Declared) (line : Line) → AllByRecursion IsDeclared objects → LineFits objects line → IsSomeAnd (slice_get objects line.object) (λ d. IsKind d.kind × HasLine line d)
line_said objects line sound fits = said objects line.object line sound fits
  where
    said : (xs : List Declared) (o : ℕ) (line : Line) → AllByRecursion IsDeclared xs → IsSomeAnd (slice_get xs o) (HasLine line) → IsSomeAnd (slice_get xs o) (λ d. IsKind d.kind × HasLine line d)
    said [] o line sound fits = absurd fits
    said (x ∷ xs) zero line sound fits = (sound.0.0, fits)
    said (x ∷ xs) (suc o) line sound fits = said xs o line sound.1 fits
