use Rattle.std.proofs.Common.{rules}
use Rattle.update_table.proofs.Trying.{begin, more, stop, done}
use Rattle.update_table.proofs.ValueAnswers.{led_by, refused_by}
use Rattle.update_table.proofs.typed.exchange_values.Given as given
use Rattle.update_table.proofs.typed.exchange_values.Goals as goal

pub loop-init : goal.loop-init
loop-init g c = (tt, tt, search rules, begin _ _ _ _ _ c.requires.atomic.0 _ _ _ c.requires.ready.of.1 c.number-number.ensures.kept c.load-found.ensures)

pub returns-in_default-clause-updates : goal.returns-in_default-clause-updates
returns-in_default-clause-updates g c =
    let refused = refused_by g.V.Scalar.of_bits g.V.Scalar.bits (given.F-post g c.args.f) _ _ _ c.to_bits-from.ensures.value c.to_bits-from.ensures.fits c.to_bits-from.ensures.back c.in_default.ensures in
    (refused.0, refused.1, stop _ _ _ _ _ c.requires.atomic.0 _ _ _ c.loop.invariant.3)

pub returns-in-Ok-clause-updates : goal.returns-in-Ok-clause-updates
returns-in-Ok-clause-updates g c = (
  g.V.Scalar.bits c.in-Some-f.new,
  led_by g.V.Scalar.of_bits g.V.Scalar.bits (given.F-post g c.args.f) _ _ _ _ _ c.to_bits-from.ensures.value c.to_bits-from.ensures.fits c.to_bits-from.ensures.back c.to_bits-to.ensures.value c.to_bits-to.ensures.fits c.in-Some-f.ensures,
  done _ _ _ _ _ c.requires.atomic.0 _ _ _ _ _ _ c.requires.ready.of.1 c.loop.invariant.3 c.in-Ok.ensures,
)

pub loop-preserved : goal.loop-preserved
loop-preserved g c = (
  tt,
  tt,
  search rules,
  more _ _ _ _ _ c.requires.atomic.0 _ _ _ _ _ _ c.requires.ready.of.1 c.loop.invariant.3
      (led_by g.V.Scalar.of_bits g.V.Scalar.bits (given.F-post g c.args.f) _ _ _ _ _ c.to_bits-from.ensures.value c.to_bits-from.ensures.fits c.to_bits-from.ensures.back c.to_bits-to.ensures.value c.to_bits-to.ensures.fits c.in-Some-f.ensures) c.in-Err.ensures,
)
