use Rattle.std.proofs.Common.{◌≡◌, ◌≤◌, ◌+◌, length}
use Rattle.line_words.specs.Text.{lines_of}
use Rattle.work_lang.specs.Limits.{most_bytes}
use Rattle.work_lang.specs.Reading.{run, reading_of}
use Rattle.work_lang.specs.Kept.{IsKept}
use Rattle.work_lang.proofs.reader.read_lines.Given as goal

abbrev pub invariant-lines : goal.invariant-lines
invariant-lines l = record { so_far : run l.reader l.number (lines_of l.rest) ≡ reading_of l.fn.text; kept : IsKept l.reader; short : l.number + length l.rest ≤ most_bytes; few : length l.reader.pieces + length l.rest ≤ most_bytes }

abbrev pub decreases-lines : goal.decreases-lines
decreases-lines l = length l.rest
