-- The words of the command line, and what they ask for.
use Rattle.std.specs.Prelude.{◌≡◌, ℕ, Bool, true, false, List, [], ◌∷◌, Option, Some, None, Result, Ok, Err, map, option_map, codes, String, string_bytes, if◌then◌else◌}
use Rattle.std.specs.Borrow.{Bor}
use Rattle.std.specs.Str.{bytes_eq}
use Rattle.std.specs.declared.alloc.Global.{Global}
use Rattle.op_table.specs.declared.kind.Kind.{Kind}
use Rattle.op_table.specs.declared.kind.Width.TheVariants.{W32, W64}
use Rattle.op_table.specs.declared.value.ValueFault.{ValueFault}
use Rattle.op_table.specs.Value.{parsed_value}
use Rattle.op_table.specs.Words.{integer}
use Rattle.clap.specs.Words.{Kinds, Row, Text, fault_of, first_of, subcommand_of}
use Rattle.target_desc.specs.declared.target.Target.{Target}
use Rattle.target_desc.specs.Target.{IsTarget, IsOfVersion, builtin_of}
use Rattle.top_call.specs.declared.command.Command.{Command}
use Rattle.top_call.specs.declared.command.Command.TheVariants.{Run, Check, Convert, Plan, Targets, Many}
use Rattle.top_call.specs.declared.command.WordsFault.{WordsFault}
use Rattle.top_call.specs.declared.command.WordsFault.TheVariants as words
use Rattle.top_call.specs.CommandLine.{command_line}
use Rattle.work_lang.specs.Generated.{many_fits}

-- `x ← r` in a definition: what comes of x, or nothing
infixl 10 ◌>>=◌
abbrev pub ◌>>=◌ : {A B : Type 0} → Option A → (A → Option B) → Option B
None >>= f = None
(Some x) >>= f = f x

-- ---- values

-- the text behind a reference
abbrev pub text_of : Option (Bor Text) → Option Text
text_of = option_map (λ s. s.now)

-- the number that a text of a kind spells
abbrev pub read_number : Result ℕ ValueFault → Option ℕ
read_number (Ok n) = Some n
read_number (Err fault) = None

unfoldable pub number_of : Kind → Option Text → Option ℕ
number_of kind None = None
number_of kind (Some text) = read_number (parsed_value kind text)

abbrev pub known_target : Option Target → Option (Option Target)
known_target None = None
known_target (Some t) = Some (Some t)

-- no target, or the built-in one of that name
unfoldable pub target_named : Option Text → Option (Option Target)
target_named None = Some None
target_named (Some name) = known_target (builtin_of name)

-- ---- commands

-- a command that may name a target
abbrev pub targeted : (Option Target → Command) → List Row → Option Command
targeted command rows = do
  target ← target_named (first_of (codes "target") rows)
  Some (command target)

-- a run that is generated, where there is one of these numbers
abbrev pub generated : List Row → Option Command
generated rows = do
  seed ← number_of (integer false W64) (first_of (codes "SEED") rows)
  threads ← number_of (integer false W32) (first_of (codes "THREADS") rows)
  calls ← number_of (integer false W32) (first_of (codes "CALLS") rows)
  if many_fits threads calls then Some (Many seed threads calls) else None

-- the command of a subcommand and its values
abbrev pub command_by : Text → List Row → Option Command
command_by name rows =
    if bytes_eq name (codes "run") then targeted Run rows
    else if bytes_eq name (codes "check") then Some Check
    else if bytes_eq name (codes "convert") then Some Convert
    else if bytes_eq name (codes "plan") then targeted Plan rows
    else if bytes_eq name (codes "targets") then Some Targets
    else if bytes_eq name (codes "many") then generated rows
    else None

unfoldable pub command_in : Option (Text × List Row) → Option Command
command_in None = None
command_in (Some found) = command_by found.0 found.1

-- the texts of words
abbrev pub texts_of : List (String Global) → List Text
texts_of words = map (λ word. string_bytes word) words

-- nothing, where clap has a fault of one of these kinds
abbrev pub unless_refused : Kinds → Option Command → Option Command
unless_refused [] asked = asked
unless_refused (kind ∷ kinds) asked = None

-- what the words ask for: they are a form where clap takes them, they name a subcommand, and its values are of their forms
unfoldable pub command_of : List (String Global) → Option Command
command_of words = unless_refused (fault_of command_line (texts_of words)) (command_in (subcommand_of command_line (texts_of words)))

-- what reading the words comes to
abbrev pub ReadsWords : Option Command → Result Command WordsFault → Type 0
ReadsWords asked (Ok command) = asked ≡ Some command
ReadsWords asked (Err words.Usage) = asked ≡ None
ReadsWords asked (Err words.NoMemory) = Unit {0}

-- a target that is asked for is one, which each version of the language can say
abbrev pub IsTargetAsked : Option Target → Type 0
IsTargetAsked None = Unit {0}
IsTargetAsked (Some t) = IsTarget t × IsOfVersion 1 t

-- the target that is asked for is one, and a generated run has the numbers of one
abbrev pub IsAsked : Command → Type 0
IsAsked (Run t) = IsTargetAsked t
IsAsked Check = Unit {0}
IsAsked Convert = Unit {0}
IsAsked (Plan t) = IsTargetAsked t
IsAsked Targets = Unit {0}
IsAsked (Many seed threads calls) = many_fits threads calls ≡ true

-- whether the command reads a workload
abbrev pub reads : Command → Bool
reads (Run t) = true
reads Check = true
reads Convert = true
reads (Plan t) = true
reads Targets = false
reads (Many seed threads calls) = false

-- the commands that describe, and don't run
abbrev pub described_by : Command → Option Command
described_by (Run t) = None
described_by Check = Some Check
described_by Convert = Some Convert
described_by (Plan t) = Some (Plan t)
described_by Targets = Some Targets
described_by (Many seed threads calls) = None

abbrev pub described : Option Command → Option Command
described (Some command) = described_by command
described None = None
