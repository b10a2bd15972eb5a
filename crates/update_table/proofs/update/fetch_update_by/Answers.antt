use Rattle.std.proofs.Common.{rules}
use Rattle.update_table.proofs.Trying.{begin, more, stop, done}
use Rattle.update_table.proofs.update.fetch_update_by.Goals as goal
use Rattle.update_table.proofs.update.fetch_update_by.Goals.{then-found-lo-via-then-found-lo, then-found-lo-via-else-found-lo+then-found-hi}

pub loop-init : goal.loop-init
loop-init g c = (tt, tt, c.load-found.ensures.ready, begin _ _ _ _ _ c.requires.object _ _ _ c.requires.ready.of.1 c.number-number.ensures.kept c.load-found.ensures.serves)

pub returns-then-found-lo-clause-updates : goal.returns-then-found-lo-clause-updates
returns-then-found-lo-clause-updates g c = (
  λ within. elim c.then-found-lo.branch [
    | then-found-lo-via-then-found-lo w ↦ search rules
    | then-found-lo-via-else-found-lo+then-found-hi w ↦ search rules
  ],
  stop _ _ _ _ _ c.requires.object _ _ _ c.loop.invariant.3,
)

pub returns-in_default-clause-updates : goal.returns-in_default-clause-updates
returns-in_default-clause-updates g c = (search rules, search rules, stop _ _ _ _ _ c.requires.object _ _ _ c.loop.invariant.3)

pub returns-in-Ok-clause-updates : goal.returns-in-Ok-clause-updates
returns-in-Ok-clause-updates g c = (
  c.in-Some-next.new,
  record { from = search rules; to = search rules; leads = search rules },
  done _ _ _ _ _ c.requires.object _ _ _ _ _ _ c.requires.ready.of.1 c.loop.invariant.3 c.in-Ok.ensures.serves,
)

pub loop-preserved : goal.loop-preserved
loop-preserved g c = (
  tt,
  tt,
  c.exchange.ensures.ready,
  more _ _ _ _ _ c.requires.object _ _ _ _ _ _ c.requires.ready.of.1 c.loop.invariant.3 (record { from = search rules; to = search rules; leads = search rules }) c.in-Err.ensures.serves,
)
