use Rattle.std.proofs.Common.{length}
use Rattle.std.specs.List.{AllByRecursion}
use Rattle.op_table.specs.Words.{operations_of}
use Rattle.work_lang.specs.Streams.{WroteUpTo}
use Rattle.lock_free_info.specs.Laws.{IsCallOf}
use Rattle.lock_free_info.specs.PlanTable.{word_lines}
use Rattle.lock_free_info.proofs.table.write_words.Given as goal

abbrev pub invariant-words : goal.invariant-words
invariant-words g l = record {
  calls : AllByRecursion (IsCallOf l.declared.kind) l.rest;
  wrote : WroteUpTo g.K.Sink.taken g.K.Sink.faults g.K.Sink.tries g.K.Sink.whole l.fn.sink l.sink (word_lines l.shape l.number l.declared (operations_of l.declared.kind.class)) (word_lines l.shape l.number l.declared l.rest);
}

abbrev pub decreases-words : goal.decreases-words
decreases-words g l = length l.rest
