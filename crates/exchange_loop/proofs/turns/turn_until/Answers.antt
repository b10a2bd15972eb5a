use Rattle.std.proofs.Common.{ℕ, subst}
use Rattle.seat_views.specs.Tries.{LookMade, LookSaw, TryMade, TrySaw}
use Rattle.exchange_loop.proofs.Turning.{look_done, look_open, try_open, try_done}
use Rattle.exchange_loop.proofs.turns.turn_until.Goals as goal

pub returns-in-Ok : goal.returns-in-Ok
returns-in-Ok g c = look_done _ _ _ c.requires.lane c.requires.loops _ _ _
    (subst (λ (o : ℕ). LookMade c.args.arena.now.shape o c.args.call.now c.args.pass.now c.in-Ok.reply c.step_look.new.self) c.object-object.ensures c.in-Ok.ensures.made)

pub loop-init : goal.loop-init
loop-init g c = (
  tt,
  tt,
  look_open _ _ _ c.requires.lane c.requires.loops _ _ _ c.requires.arena.1
      (subst (λ (o : ℕ). LookSaw c.args.arena.now.shape o c.args.call.now c.args.pass.now c.in-Err.word c.step_look.new.self) c.object-object.ensures c.in-Err.ensures.saw),
)

pub returns-in-Ok-step_try : goal.returns-in-Ok-step_try
returns-in-Ok-step_try g c = try_done _ _ _ c.requires.lane c.requires.loops _ _ _ _ _ c.requires.strong c.loop.invariant.2
    (subst (λ (o : ℕ). TryMade c.args.arena.now.shape o c.args.call.now c.loop.found c.loop.pass c.in-Ok-step_try.reply c.step_try.new.self) c.object-object.ensures c.in-Ok-step_try.ensures.made)

pub loop-preserved : goal.loop-preserved
loop-preserved g c = (
  tt,
  tt,
  try_open _ _ _ c.requires.lane c.requires.loops _ _ _ _ _ c.requires.arena.1 c.loop.invariant.2
      (subst (λ (o : ℕ). TrySaw c.args.arena.now.shape o c.args.call.now c.loop.found c.loop.pass c.in-Err-step_try.word c.step_try.new.self) c.object-object.ensures c.in-Err-step_try.ensures.lost),
)
