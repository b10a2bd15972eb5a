use Rattle.std.proofs.Common.{◌∙◌, arith, sym, ap, length, length-append, ◌∷◌, ◌++◌, []}
use Rattle.place_core.specs.declared.script.Piece.TheVariants.{One}
use Rattle.place_core.specs.Pieces.{script_lines}
use Rattle.work_lang.proofs.Drawing.{script_drawn, script_done, after_words-more, after_words-none}
use Rattle.work_lang.proofs.generate.drawn_script.Goals as goal

pub returns-clause-script : goal.returns-clause-script
returns-clause-script c = script_done _ _ c.calls.left c.calls.generator (omega arith) c.calls.invariant.script

pub returns-clause-drawn : goal.returns-clause-drawn
returns-clause-drawn c = sym (after_words-none c.calls.left c.calls.generator (omega arith)) ∙ c.calls.invariant.generator

pub calls-preserved : goal.calls-preserved
calls-preserved c =
    let k = c.calls.left in
    record {
      script = script_drawn _ c.calls.script c.push.new.self k c.calls.generator c.next_word.new.self c.next_word.result (omega arith) c.next_word.ensures
          (c.in_ok-push.ensures.ok ∙ ap (λ line. c.calls.script ++ One line ∷ []) c.drawn_line.ensures) c.calls.invariant.script;
      generator = sym (after_words-more k c.calls.generator c.next_word.new.self c.next_word.result (omega arith) c.next_word.ensures) ∙ c.calls.invariant.generator;
      pieces = omega (arith, c.calls.invariant.pieces, ap length c.in_ok-push.ensures.ok, length-append c.calls.script (One c.drawn_line.result ∷ []));
      lines = omega (arith, c.calls.invariant.lines, ap length c.in_ok-push.ensures.lines, length-append (script_lines c.calls.script) (c.drawn_line.result ∷ []));
    }
