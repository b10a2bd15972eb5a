use Rattle.std.proofs.Common.{◌≡◌, length, arith, sym, ◌∙◌, subst, Result}
use Rattle.std.proofs.lemmas.Bool.{eqb-true}
use Rattle.line_words.specs.Text.{lines_of}
use Rattle.work_lang.specs.Workload.{Workload}
use Rattle.work_lang.specs.Reading.{reading_of, Reads, Fault}
use Rattle.work_lang.proofs.Keeping.{start_kept}
use Rattle.work_lang.proofs.Items.{line_kept, line_pieces}
use Rattle.work_lang.proofs.Runs.{goes_on, stops, is_done, reading_long, reading_is}
use Rattle.work_lang.proofs.reader.read_lines.Goals as goal

pub returns-then-text-gt-MOST_BYTES-clause-exact : goal.returns-then-text-gt-MOST_BYTES-clause-exact
returns-then-text-gt-MOST_BYTES-clause-exact c = reading_long c.args.text.now (omega arith)

pub lines-init : goal.lines-init
lines-init c = record { kept = rw c.new-reader.ensures start_kept; so_far = rw c.new-reader.ensures (reading_is c.args.text.now (omega arith)); short = omega arith; few = rw c.new-reader.ensures (omega arith) }

pub returns-in-Err-clause-exact : goal.returns-in-Err-clause-exact
returns-in-Err-clause-exact c =
    rw c.at.ensures (stops c.in-Err.fault c.lines.reader c.take_line.new.self c.lines.number c.line_at.result.0.now (lines_of c.lines.rest.now) (lines_of c.line_at.result.1.now) (reading_of c.args.text.now) c.line_at.ensures.line c.in-Err.ensures.moves c.lines.invariant.so_far)

pub lines-preserved : goal.lines-preserved
lines-preserved c =
    record {
      so_far = goes_on c.lines.reader c.take_line.new.self c.lines.number c.line_at.result.0.now (lines_of c.lines.rest.now) (lines_of c.line_at.result.1.now) (reading_of c.args.text.now) c.line_at.ensures.line c.in-Ok.ensures.moves c.lines.invariant.so_far;
      kept = line_kept c.lines.reader c.line_at.result.0.now c.take_line.new.self c.lines.invariant.kept c.in-Ok.ensures.moves;
      short = omega arith;
      few = omega (arith, c.lines.invariant.few, line_pieces c.lines.reader c.line_at.result.0.now c.take_line.new.self c.lines.invariant.kept c.in-Ok.ensures.moves);
    }

pub returns-clause-exact : goal.returns-clause-exact
returns-clause-exact c =
    let none : length c.lines.rest.now ≡ 0 = eqb-true _ _ (sym c.is_empty.ensures ∙ c.lines-test.false) in
    subst (λ (r : Result Workload Fault). Reads c.finish.result r) (sym (is_done c.lines.reader c.lines.number c.lines.rest.now (reading_of c.args.text.now) none c.lines.invariant.so_far)) c.finish.ensures
