use Rattle.std.proofs.Common.{◌∙◌, ap, ap₂}
use Rattle.std.proofs.lemmas.Result.{IfOk-weaker}
use Rattle.clap.specs.Words.{App, with_subcommand}
use Rattle.top_call.specs.CommandLine.{command_line, program}
use Rattle.top_call.proofs.command_line.command_line.Goals as goal

pub returns : goal.returns
unfolding command_line
returns c =
    let one = c.in_ok-subcommand.ensures.shape c.in_ok-targeted.ensures.local ∙ ap₂ with_subcommand c.program.ensures.app (ap (λ (a : App). a.top) c.in_ok-targeted.ensures.app) in
    let two = c.in_ok-subcommand-2.ensures.shape c.new.ensures.local ∙ ap₂ with_subcommand one (ap (λ (a : App). a.top) c.new.ensures.app) in
    let three = c.in_ok-subcommand-3.ensures.shape c.new-2.ensures.local ∙ ap₂ with_subcommand two (ap (λ (a : App). a.top) c.new-2.ensures.app) in
    let four = c.in_ok-subcommand-4.ensures.shape c.in_ok-targeted-2.ensures.local ∙ ap₂ with_subcommand three (ap (λ (a : App). a.top) c.in_ok-targeted-2.ensures.app) in
    let five = c.in_ok-subcommand-5.ensures.shape c.new-3.ensures.local ∙ ap₂ with_subcommand four (ap (λ (a : App). a.top) c.new-3.ensures.app) in
    IfOk-weaker c.subcommand-6.result _ _
    (λ r h. h.shape c.in_ok-generated.ensures.local ∙ ap₂ with_subcommand five (ap (λ (a : App). a.top) c.in_ok-generated.ensures.app)) c.subcommand-6.ensures
