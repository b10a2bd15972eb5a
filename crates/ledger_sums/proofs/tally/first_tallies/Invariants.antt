use Rattle.std.proofs.Common.{◌≡◌, ◌++◌, length}
use Rattle.ledger_sums.specs.Tallies.{first_tallies}
use Rattle.ledger_sums.proofs.tally.first_tallies.Given as goal

abbrev pub invariant-objects : goal.invariant-objects
invariant-objects l = l.tallies.items ++ first_tallies l.rest ≡ first_tallies l.objects

abbrev pub decreases-objects : goal.decreases-objects
decreases-objects l = length l.rest
