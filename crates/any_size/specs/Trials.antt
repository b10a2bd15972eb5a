-- What the tests know of passes between their calls.
use Rattle.std.specs.Prelude.{◌≡◌, ℕ}
use Rattle.any_size.specs.declared.view.Hold.TheVariants.{Idle}
use Rattle.any_size.specs.States.{BlocksState, BlockPassState, IsOf}

-- a pass of the blocks, with nothing in flight
pub record IsReady (b : BlocksState) (p : BlockPassState) : Type 0 where
  pub of : IsOf b p
  pub rest : p.hold ≡ Idle

-- the root's pass
pub record IsReadyRoot (b : BlocksState) (p : BlockPassState) : Type 0 where
  pub ready : IsReady b p
  pub root : p.number ≡ 0
