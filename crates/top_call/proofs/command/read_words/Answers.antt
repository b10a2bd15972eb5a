use Rattle.std.proofs.Common.{◌∙◌, sym}
use Rattle.clap.specs.Words.{kind_of}
use Rattle.top_call.proofs.WordLines.{command_taken, command_refused}
use Rattle.top_call.proofs.command.read_words.Goals as goal

pub returns-in-Some-clause-value : goal.returns-in-Some-clause-value
returns-in-Some-clause-value c =
    let found = c.in-Ok-try_get_matches_from in
    command_taken _ c.args.words.now found.matches c.in-Ok.ensures found.ensures.kinds found.ensures.matches ∙ sym c.in-Some.ensures.value

pub returns-in-Ok-try_get_matches_from-clause-value : goal.returns-in-Ok-try_get_matches_from-clause-value
returns-in-Ok-try_get_matches_from-clause-value c =
    let found = c.in-Ok-try_get_matches_from in
    command_taken _ c.args.words.now found.matches c.in-Ok.ensures found.ensures.kinds found.ensures.matches ∙ sym c.in-None.ensures.value

pub returns : goal.returns
returns c = record {
  value = command_refused _ c.args.words.now (kind_of c.in-Err.error) c.in-Ok.ensures (λ e. c.in_default-kind.not-OutOfMemory (c.kind.ensures ∙ e)) c.in-Err.ensures.kinds;
  asked = tt;
}
