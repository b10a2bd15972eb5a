-- Tallies: of each object what the calls on it have been so far, and the value that they leave.
use Rattle.std.specs.Prelude.{◌≡◌, ℕ, ◌<◌, List, [], ◌∷◌, length, map, Option, Some, None, slice_get, slice_set, if◌then◌else◌}
use Rattle.op_table.specs.declared.kind.Kind.{Kind}
use Rattle.op_table.specs.declared.call.Call.{Call}
use Rattle.op_table.specs.Kind.{values_of}
use Rattle.op_table.specs.Call.{after_of}
use Rattle.place_core.specs.declared.places.Object.{Object}
use Rattle.place_core.specs.declared.script.Line.{Line}
use Rattle.place_core.specs.declared.shape.Shape.{Shape}
use Rattle.place_core.specs.Shapes.{kind_of}
use Rattle.ledger_sums.specs.declared.families.Family.{Family}
use Rattle.ledger_sums.specs.declared.families.Mix.{Mix}
use Rattle.ledger_sums.specs.declared.families.Mix.TheVariants.{Loads, One, Other}
use Rattle.ledger_sums.specs.declared.tally.Tally.{Tally}
use Rattle.ledger_sums.specs.Families.{mix_of, is_same}

-- members of a family, and others
abbrev pub with_family : Family → Mix → Mix
with_family f Loads = One f
with_family f (One g) = if is_same f g then One f else Other
with_family f Other = Other

-- what two lots of calls are together
abbrev pub joined : Mix → Mix → Mix
joined Loads more = more
joined (One f) more = with_family f more
joined Other more = Other

-- a tally with one call more
abbrev pub with_call : Kind → Tally → Call → Tally
with_call kind tally call = record { mix = joined tally.mix (mix_of call); value = after_of kind call tally.value }

-- the tally of an object without calls
abbrev pub tally_of : Object → Tally
tally_of a = record { mix = Loads; value = a.start }

-- the tallies before the first call
abbrev pub first_tallies : List Object → List Tally
first_tallies objects = map tally_of objects

-- a call added to its object's tally, where there is one
abbrev pub put_call : Shape → List Tally → Line → Option Tally → List Tally
put_call S tallies line None = tallies
put_call S tallies line (Some tally) = slice_set tallies line.object (with_call (kind_of S line.object) tally line.call)

-- the tallies with one call more
abbrev pub next_tallies : Shape → List Tally → Line → List Tally
next_tallies S tallies line = put_call S tallies line (slice_get tallies line.object)

-- the tallies with these calls, one after another
abbrev pub tallies_after : Shape → List Tally → List Line → List Tally
tallies_after S tallies [] = tallies
tallies_after S tallies (line ∷ lines) = tallies_after S (next_tallies S tallies line) lines

-- the tallies with the calls of all scripts, one script after another
abbrev pub tallies_end : Shape → List Tally → List (List Line) → List Tally
tallies_end S tallies [] = tallies
tallies_end S tallies (script ∷ scripts) = tallies_end S (tallies_after S tallies script) scripts

-- one tally an object, and each value is one of its object's kind
pub record AreTallies (S : Shape) (tallies : List Tally) : Type 0 where
  pub whole : length tallies ≡ length S.objects
  pub values : (o : ℕ) (tally : Tally) → slice_get tallies o ≡ Some tally → tally.value < values_of (kind_of S o)

-- this value, unless the calls are of no one family
abbrev pub value_in_mix : Mix → ℕ → Option ℕ
value_in_mix Loads v = Some v
value_in_mix (One f) v = Some v
value_in_mix Other v = None

-- what a tally tells of the last value
abbrev pub settled : Tally → Option ℕ
settled tally = value_in_mix tally.mix tally.value
