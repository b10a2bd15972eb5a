use Rattle.std.proofs.Common.{rules, refl}
use Rattle.update_table.specs.Values.{always}
use Rattle.update_table.proofs.Trying.{begin, more, done}
use Rattle.update_table.proofs.ValueAnswers.{led_by}
use Rattle.update_table.proofs.typed.exchange_always.Given as given
use Rattle.update_table.proofs.typed.exchange_always.Goals as goal

pub loop-init : goal.loop-init
loop-init g c = (tt, tt, search rules, begin _ _ _ _ _ c.requires.atomic.0 _ _ _ c.requires.ready.of.1 c.number-number.ensures.kept c.load-found.ensures)

pub returns-in-Ok-clause-updates : goal.returns-in-Ok-clause-updates
returns-in-Ok-clause-updates g c = (
  g.V.Scalar.bits c.f-new.result,
  led_by g.V.Scalar.of_bits g.V.Scalar.bits (always (given.F-post g c.args.f)) _ _ _ _ _ c.to_bits-from.ensures.value c.to_bits-from.ensures.fits c.to_bits-from.ensures.back c.to_bits-to.ensures.value c.to_bits-to.ensures.fits (c.f-new.result, c.f-new.ensures, refl),
  done _ _ _ _ _ c.requires.atomic.0 _ _ _ _ _ _ c.requires.ready.of.1 c.loop.invariant.3 c.in-Ok.ensures,
)

pub loop-preserved : goal.loop-preserved
loop-preserved g c = (
  tt,
  tt,
  search rules,
  more _ _ _ _ _ c.requires.atomic.0 _ _ _ _ _ _ c.requires.ready.of.1 c.loop.invariant.3
      (led_by g.V.Scalar.of_bits g.V.Scalar.bits (always (given.F-post g c.args.f)) _ _ _ _ _ c.to_bits-from.ensures.value c.to_bits-from.ensures.fits c.to_bits-from.ensures.back c.to_bits-to.ensures.value c.to_bits-to.ensures.fits (c.f-new.result, c.f-new.ensures, refl)) c.in-Err.ensures,
)
