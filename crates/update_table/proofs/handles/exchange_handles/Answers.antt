use Rattle.std.proofs.Common.{rules, refl}
use Rattle.op_table.specs.Kind.{values_of}
use Rattle.scalar_laws.specs.Kinds.{address}
use Rattle.update_table.specs.HandleBits.{handle_of, bits_of_handle}
use Rattle.update_table.proofs.Trying.{begin, more, stop, done}
use Rattle.update_table.proofs.ValueAnswers.{led_by, refused_by}
use Rattle.update_table.proofs.handles.exchange_handles.Given as given
use Rattle.update_table.proofs.handles.exchange_handles.Goals as goal

pub loop-init : goal.loop-init
loop-init g c = (tt, tt, search rules, begin _ _ _ _ _ c.requires.atomic.0 _ _ _ c.requires.ready.of.1 c.number-number.ensures.kept c.load-found.ensures)

pub returns-in_default-clause-updates : goal.returns-in_default-clause-updates
returns-in_default-clause-updates g c =
    let refused = refused_by handle_of bits_of_handle (given.F-post g c.args.f) (values_of address) c.loop.found c.loop.found.bits refl c.is_address.ensures refl c.in_default.ensures in
    (refused.0, refused.1, stop _ _ _ _ _ c.requires.atomic.0 _ _ _ c.loop.invariant.3)

pub returns-in-Ok-clause-updates : goal.returns-in-Ok-clause-updates
returns-in-Ok-clause-updates g c = (
  c.in-Some-f.new.bits,
  led_by handle_of bits_of_handle (given.F-post g c.args.f) (values_of address) c.loop.found c.in-Some-f.new c.loop.found.bits c.in-Some-f.new.bits refl c.is_address.ensures refl refl (search rules) c.in-Some-f.ensures,
  done _ _ _ _ _ c.requires.atomic.0 _ _ _ _ _ _ c.requires.ready.of.1 c.loop.invariant.3 c.in-Ok.ensures,
)

pub loop-preserved : goal.loop-preserved
loop-preserved g c = (
  tt,
  tt,
  search rules,
  more _ _ _ _ _ c.requires.atomic.0 _ _ _ _ _ _ c.requires.ready.of.1 c.loop.invariant.3
      (led_by handle_of bits_of_handle (given.F-post g c.args.f) (values_of address) c.loop.found c.in-Some-f.new c.loop.found.bits c.in-Some-f.new.bits refl c.is_address.ensures refl refl (search rules) c.in-Some-f.ensures) c.in-Err.ensures,
)
