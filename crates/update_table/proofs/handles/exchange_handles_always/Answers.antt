use Rattle.std.proofs.Common.{rules, refl}
use Rattle.update_table.specs.Values.{always}
use Rattle.op_table.specs.Kind.{values_of}
use Rattle.scalar_laws.specs.Kinds.{address}
use Rattle.update_table.specs.HandleBits.{handle_of, bits_of_handle}
use Rattle.update_table.proofs.Trying.{begin, more, done}
use Rattle.update_table.proofs.ValueAnswers.{led_by}
use Rattle.update_table.proofs.handles.exchange_handles_always.Given as given
use Rattle.update_table.proofs.handles.exchange_handles_always.Goals as goal

pub loop-init : goal.loop-init
loop-init g c = (tt, tt, search rules, begin _ _ _ _ _ c.requires.atomic.0 _ _ _ c.requires.ready.of.1 c.number-number.ensures.kept c.load-found.ensures)

pub returns-in-Ok-clause-updates : goal.returns-in-Ok-clause-updates
returns-in-Ok-clause-updates g c = (
  c.f-new.result.bits,
  led_by handle_of bits_of_handle (always (given.F-post g c.args.f)) (values_of address) c.loop.found c.f-new.result c.loop.found.bits c.f-new.result.bits refl c.is_address.ensures refl refl (search rules) (c.f-new.result, c.f-new.ensures, refl),
  done _ _ _ _ _ c.requires.atomic.0 _ _ _ _ _ _ c.requires.ready.of.1 c.loop.invariant.3 c.in-Ok.ensures,
)

pub loop-preserved : goal.loop-preserved
loop-preserved g c = (
  tt,
  tt,
  search rules,
  more _ _ _ _ _ c.requires.atomic.0 _ _ _ _ _ _ c.requires.ready.of.1 c.loop.invariant.3
      (led_by handle_of bits_of_handle (always (given.F-post g c.args.f)) (values_of address) c.loop.found c.f-new.result c.loop.found.bits c.f-new.result.bits refl c.is_address.ensures refl refl (search rules) (c.f-new.result, c.f-new.ensures, refl)) c.in-Err.ensures,
)
