-- Laws of reports, as the module `laws` proves them.
use Rattle.std.specs.Prelude.{◌≡◌, ℕ, List, true, length, Option, Some}
use Rattle.std.specs.List.{AllByRecursion}
use Rattle.place_core.specs.declared.entry.Entry.{Entry}
use Rattle.place_core.specs.DeclaredObjects.{cells_of}
use Rattle.place_core.specs.Runs.{IsCellRun, replies_by}
use Rattle.work_lang.specs.Generated.{generated_objects, many_fits, many_of}
use Rattle.work_lang.specs.Workload.{threads_of}
use Rattle.report_text.specs.Report.{fixed_of}
use Rattle.report_text.specs.Many.{many_lines, many_with}

-- whatever the order of calls in a generated run, its lines are those of its three numbers
abbrev pub ManyIsFixed : Type 0
ManyIsFixed = (seed threads calls : ℕ) (H : List Entry) → many_fits threads calls ≡ true → IsCellRun (cells_of generated_objects) (threads_of (many_of seed threads calls)) H
    → many_with seed threads calls generated_objects (replies_by H 0) ≡ many_lines seed threads calls

abbrev pub HasValue : Option ℕ → Type 0
HasValue fixed = (v : ℕ) × (fixed ≡ Some v)

-- each object of a generated workload has a fixed value
abbrev pub EachIsFixed : Type 0
EachIsFixed = (seed threads calls : ℕ) → let work = many_of seed threads calls in (length (fixed_of work) ≡ length work.objects) × AllByRecursion HasValue (fixed_of work)
