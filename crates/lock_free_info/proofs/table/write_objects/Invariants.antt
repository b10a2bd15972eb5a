use Rattle.std.proofs.Common.{◌≡◌, ◌+◌, ◌*◌, ◌≤◌, length, drop}
use Rattle.work_lang.specs.Streams.{WroteUpTo}
use Rattle.layout_plan.specs.Layout.{AreDeclared, objects_from}
use Rattle.lock_free_info.specs.PlanTable.{lines_from}
use Rattle.lock_free_info.proofs.table.write_objects.Given as goal

-- the objects of the shape from this number on are those that are left, laid behind those before
abbrev pub invariant-objects : goal.invariant-objects
invariant-objects g l = record {
  declared : AreDeclared l.rest;
  laid : drop l.number l.shape.objects ≡ objects_from l.target l.after l.rest;
  count : l.number + length l.rest ≤ 65536;
  room : l.after + 32 * length l.rest ≤ 2097152;
  wrote : WroteUpTo g.K.Sink.taken g.K.Sink.faults g.K.Sink.tries g.K.Sink.whole l.fn.sink l.sink (lines_from l.target l.shape 0 0 l.objects) (lines_from l.target l.shape l.number l.after l.rest);
}

abbrev pub decreases-objects : goal.decreases-objects
decreases-objects g l = length l.rest
