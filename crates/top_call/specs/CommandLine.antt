-- The command line of the program, as clap knows it: six subcommands, of which two have the option `--target` and one has
-- three values.
use Rattle.std.specs.Prelude.{[], Some, true, codes}
use Rattle.clap.specs.Words.{App, Rule, Text, new_app, new_rule, with_rule, with_subcommand}

-- `--target`, with one value
abbrev pub target_rule : Rule
target_rule = record (new_rule (codes "target")) { long = Some (codes "target") }

-- a value that has to be there
abbrev pub value_rule : Text → Rule
value_rule id = record (new_rule id) { required = true }

-- a subcommand without further words
abbrev pub alone : Text → App
alone name = new_app name

-- a subcommand that may name a target
abbrev pub targeted : Text → App
targeted name = with_rule (new_app name) target_rule

-- a subcommand with the three values of a generated run
abbrev pub generated : Text → App
generated name = with_rule (with_rule (with_rule (new_app name) (value_rule (codes "SEED"))) (value_rule (codes "THREADS"))) (value_rule (codes "CALLS"))

-- the program's name isn't among the words
abbrev pub program : App
program = record { top = record (new_app (codes "portable")).top { no_binary_name = true }; subs = [] }

-- the command line
unfoldable pub command_line : App
command_line =
    with_subcommand (with_subcommand (with_subcommand (with_subcommand (with_subcommand (with_subcommand program
    (targeted (codes "run")).top) (alone (codes "check")).top) (alone (codes "convert")).top) (targeted (codes "plan")).top) (alone (codes "targets")).top) (generated (codes "many")).top
