-- What clap's function of the words says of the command that they ask for.
use Rattle.std.proofs.Common.{◌≡◌, ◌∙◌, ⊎_elim, true, List, [], ◌∷◌, refl, sym, subst, ap}
use Rattle.std.specs.Prelude.{◌⊎◌, Option, None, String}
use Rattle.std.specs.declared.alloc.Global.{Global}
use Rattle.clap.specs.Words.{App, HasMatchesOf, IsAmong, Kinds, fault_of, is_simple, is_simple_and_free, subcommand_of, subcommand_rows_of}
use Rattle.clap.specs.declared.error.ErrorKind.{ErrorKind}
use Rattle.clap.specs.declared.error.ErrorKind.TheVariants.{OutOfMemory}
use Rattle.clap.specs.declared.ArgMatches.{ArgMatches}
use Rattle.clap.proofs.OnLiterals.{clap_on_literals}
use Rattle.top_call.specs.declared.command.Command.{Command}
use Rattle.top_call.specs.CommandLine.{command_line}
use Rattle.top_call.specs.Commands.{command_in, command_of, texts_of, unless_refused}

line_is_free : is_simple_and_free command_line ≡ true
unfolding command_line clap_on_literals
line_is_free = refl

line_is_simple : is_simple command_line ≡ true
unfolding command_line clap_on_literals
line_is_simple = refl

-- words that clap takes ask for the command of the subcommand that it found
pub command_taken : (a : App) (words : List (String Global)) (m : ArgMatches) → a ≡ command_line
    → (is_simple_and_free a ≡ true → fault_of a (texts_of words) ≡ []) → HasMatchesOf a (texts_of words) m → command_of words ≡ command_in (subcommand_rows_of m)
unfolding command_of
command_taken a words m is taken matches =
    let none : fault_of command_line (texts_of words) ≡ [] = subst (λ (b : App). fault_of b (texts_of words) ≡ []) is (taken (ap is_simple_and_free is ∙ line_is_free)) in
    let found : subcommand_rows_of m ≡ subcommand_of command_line (texts_of words) = (matches (ap is_simple is ∙ line_is_simple)).1 ∙ ap (λ (b : App). subcommand_of b (texts_of words)) is in
    ap (λ (ks : Kinds). unless_refused ks (command_in (subcommand_of command_line (texts_of words)))) none ∙ ap command_in (sym found)

some_kind : (ks : Kinds) (k : ErrorKind) (asked : Option Command) → IsAmong k ks → unless_refused ks asked ≡ None
some_kind [] k asked among = absurd among
some_kind (x ∷ ks) k asked among = refl

-- words that it refuses ask for nothing
pub command_refused : (a : App) (words : List (String Global)) (k : ErrorKind) → a ≡ command_line → (k ≡ OutOfMemory → ⊥)
    → (is_simple_and_free a ≡ true → (k ≡ OutOfMemory) ⊎ IsAmong k (fault_of a (texts_of words))) → command_of words ≡ None
unfolding command_of
command_refused a words k is other refused = ⊎_elim
    (λ (memory : k ≡ OutOfMemory). absurd (other memory))
    (λ (among : IsAmong k (fault_of a (texts_of words))).
    some_kind (fault_of command_line (texts_of words)) k _ (subst (λ (b : App). IsAmong k (fault_of b (texts_of words))) is among))
    (refused (ap is_simple_and_free is ∙ line_is_free))
