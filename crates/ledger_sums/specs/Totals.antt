-- What additions and subtractions come to.
use Rattle.std.specs.Prelude.{ℕ, ◌+◌, ◌-◌, List, [], ◌∷◌}
use Rattle.op_table.specs.declared.kind.Kind.{Kind}
use Rattle.op_table.specs.declared.call.Call.{Call}
use Rattle.op_table.specs.declared.call.Call.TheVariants.{Add, Sub, AddFetch, SubFetch}
use Rattle.op_table.specs.Kind.{values_of}

-- what a call adds, modulo the number of values; a subtraction adds the negative
abbrev pub added_by : Kind → Call → ℕ
added_by kind (Add a q) = a
added_by kind (Sub a q) = values_of kind - a
added_by kind (AddFetch a) = a
added_by kind (SubFetch a) = values_of kind - a
added_by kind _ = 0

-- what calls add together
abbrev pub total_of : Kind → List Call → ℕ
total_of kind [] = 0
total_of kind (call ∷ calls) = added_by kind call + total_of kind calls
