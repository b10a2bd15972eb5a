-- The history of calls made one after another: what runs of at most one script come to.
use Rattle.std.specs.Prelude.{ℕ, zero, suc, ◌+◌, List, [], ◌∷◌, ◌++◌, map, slice_index, slice_set, false}
use Rattle.op_table.specs.declared.kind.Kind.{Kind}
use Rattle.op_table.specs.declared.kind.Width.TheVariants.{W1}
use Rattle.op_table.specs.declared.kind.Class.TheVariants as class
use Rattle.op_table.specs.declared.call.Call.{Call}
use Rattle.op_table.specs.declared.call.Reply.{Reply}
use Rattle.op_table.specs.Call.{after_of, answer_of}
use Rattle.place_core.specs.declared.entry.Entry.{Entry}
use Rattle.place_core.specs.declared.script.Line.{Line}
use Rattle.place_core.specs.Cells.{Cell}
use Rattle.place_core.specs.Runs.{asked_by, loads_from}

-- the kind of a cell; past the end no kind is meant
abbrev pub kind_at : List Cell → ℕ → Kind
kind_at [] o = record { width = W1; signed = false; class = class.Bool }
kind_at (c ∷ cs) zero = c.kind
kind_at (c ∷ cs) (suc o) = kind_at cs o

abbrev pub answer_at : List Cell → List ℕ → ℕ × Call → Reply
answer_at cells values asked = answer_of (kind_at cells asked.0) asked.1 (slice_index values asked.0)

abbrev pub next_values : List Cell → List ℕ → ℕ × Call → List ℕ
next_values cells values asked = slice_set values asked.0 (after_of (kind_at cells asked.0) asked.1 (slice_index values asked.0))

-- the values after calls
abbrev pub values_after : List Cell → List ℕ → List (ℕ × Call) → List ℕ
values_after cells values [] = values
values_after cells values (asked ∷ more) = values_after cells (next_values cells values asked) more

-- the entries that a caller makes
abbrev pub entries_of : List Cell → List ℕ → ℕ → List (ℕ × Call) → List Entry
entries_of cells values c [] = []
entries_of cells values c (asked ∷ more) =
    record { caller = c; object = asked.0; call = asked.1; reply = answer_at cells values asked } ∷ entries_of cells (next_values cells values asked) c more

-- thread after thread, the first of them with this number, and then caller 0's loads
abbrev pub history_from : List Cell → List ℕ → ℕ → List (List Line) → List Entry
history_from cells values i [] = entries_of cells values 0 (loads_from 0 cells)
history_from cells values i (script ∷ scripts) =
    entries_of cells values i (asked_by script) ++ history_from cells (values_after cells values (asked_by script)) (i + 1) scripts

abbrev pub starts_of : List Cell → List ℕ
starts_of cells = map (λ c. c.start) cells

abbrev pub plain_history : List Cell → List (List Line) → List Entry
plain_history cells scripts = history_from cells (starts_of cells) 1 scripts
