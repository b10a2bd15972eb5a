-- A root that lends its pass.
use Rattle.std.specs.Borrow.{Lends, MutBor, Fml}
use Rattle.seat_views.specs.States.{PassState}
use Rattle.seat_views.specs.contracts.root.Root.{the_row}
use Rattle.seat_views.specs.contracts.pass.Pass as pass

-- the root ends as the pass that was lent
abbrev pub LendsPass : MutBor PassState → MutBor PassState → Fml
LendsPass s r = Lends the_row pass.the_row s r (λ w. w)
