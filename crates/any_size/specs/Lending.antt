-- A root that lends its pass.
use Rattle.std.specs.Borrow.{Lends, MutBor, Fml}
use Rattle.any_size.specs.States.{BlockPassState}
use Rattle.any_size.specs.contracts.root.BlockRoot.{the_row}
use Rattle.any_size.specs.contracts.pass.BlockPass as pass

-- the root ends as the pass that was lent
abbrev pub LendsPass : MutBor BlockPassState → MutBor BlockPassState → Fml
LendsPass s r = Lends the_row pass.the_row s r (λ w. w)
