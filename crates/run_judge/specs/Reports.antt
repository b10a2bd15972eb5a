-- Reports of runs: the replies of each thread, and what the last loads replied.
use Rattle.std.specs.Prelude.{◌≡◌, List, map}
use Rattle.op_table.specs.declared.call.Reply.{Reply}
use Rattle.place_core.specs.RepliesState.{RepliesState}
use Rattle.place_core.specs.declared.entry.Entry.{Entry}
use Rattle.place_core.specs.declared.script.Line.{Line}
use Rattle.place_core.specs.declared.shape.Shape.{Shape}
use Rattle.place_core.specs.Runs.{replies_by, replies_from}
use Rattle.place_core.specs.ShapeRuns.{IsRun}

-- some run has these replies of its threads, and of its last loads
pub record CanBe (S : Shape) (scripts : List (List Line)) (wanted : List (List Reply)) (last : List Reply) : Type 0 where
  pub history : List Entry
  pub run : IsRun S scripts history
  pub replies : replies_from history 1 scripts ≡ wanted
  pub loads : replies_by history 0 ≡ last

-- the replies that are kept of each thread
abbrev pub items_of : List RepliesState → List (List Reply)
items_of kept = map (λ (r : RepliesState). r.items) kept
