-- An index of objects by their names.
use Rattle.std.specs.Prelude.{ℕ, ◌≡◌, List}
use Rattle.std.specs.Global.{Vec}
use Rattle.std.specs.BTreeMap.{BTreeMap, get_by}
use Rattle.std.specs.Ordering.{nat_cmp}
use Rattle.std.specs.Cmp.Lexicographic.{slice_cmp}
use Rattle.place_core.specs.declared.name.Declared.{Declared}
use Rattle.work_lang.specs.Workload.{object_of}

abbrev pub IsIndex : BTreeMap (Vec ℕ) ℕ → List Declared → Type 0
IsIndex index objects = (w : List ℕ) → get_by (λ k. slice_cmp nat_cmp w k.items) index ≡ object_of objects w
