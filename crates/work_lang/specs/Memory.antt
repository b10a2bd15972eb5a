-- Sources and sinks in memory.
use Rattle.std.specs.Prelude.{ℕ, ◌-◌, min, Bool, ◌||◌, nat_lt, nat_le, List, ◌++◌, length, take, drop, ◌==◌, if◌then◌else◌}
use Rattle.std.specs.List.{list_any}
use Rattle.work_lang.specs.Faults.{next_count}
use Rattle.work_lang.specs.Counts.{after_stop, after_bytes}
use Rattle.work_lang.specs.declared.meter.Meter.{Meter}

-- a source: the bytes left, how many a read gives at most, the numbers of the reads that fail, how many were made and
-- failed, and how far it was read
pub record Tape : Type 0 where
  pub left : List ℕ
  pub most : ℕ
  pub fails : List ℕ
  pub reads : ℕ
  pub faults : ℕ
  pub meter : Meter

abbrev pub is_listed : ℕ → List ℕ → Bool
is_listed n ns = list_any (λ m. m == n) ns

-- whether the next read fails
abbrev pub read_fails : Tape → Bool
read_fails tape = is_listed (next_count tape.reads) tape.fails

-- how many bytes a read into this much room gives
abbrev pub given : Tape → ℕ → ℕ
given tape room = min (min tape.most room) (length tape.left)

-- the source after a read into this much room
abbrev pub after_read : Tape → ℕ → Tape
after_read tape room = if read_fails tape then record tape { reads = next_count tape.reads; faults = next_count tape.faults; meter = after_stop tape.meter }
    else record tape { left = drop (given tape room) tape.left; reads = next_count tape.reads; meter = after_bytes tape.meter (given tape room) room }

-- a source that lends its bytes: those left, and how far it was read
pub record Lent : Type 0 where
  pub left : List ℕ
  pub meter : Meter

-- a sink that keeps no bytes: how many it took, and how often it was asked
pub record Tally : Type 0 where
  pub taken : ℕ
  pub writes : ℕ

-- a sink: the bytes taken, how much room is left, how many a write takes at most, the numbers of the writes that fail, and how many were made and failed
pub record Page : Type 0 where
  pub taken : List ℕ
  pub room : ℕ
  pub most : ℕ
  pub fails : List ℕ
  pub writes : ℕ
  pub faults : ℕ

-- whether a write takes all of a line or fails: it asks for the whole of each piece of at most 256 bytes
abbrev pub takes_lines : Page → Bool
takes_lines page = nat_le 256 page.most

-- how many bytes of a piece a write asks for
abbrev pub asked_room : Page → List ℕ → ℕ
asked_room page piece = min page.most (length piece)

-- whether writing the piece next fails
abbrev pub write_fails : Page → List ℕ → Bool
write_fails page piece = is_listed (next_count page.writes) page.fails || nat_lt page.room (asked_room page piece)

-- the sink after a write of a piece
abbrev pub after_write : Page → List ℕ → Page
after_write page piece = if write_fails page piece then record page { writes = next_count page.writes; faults = next_count page.faults }
    else record page { taken = page.taken ++ take (asked_room page piece) piece; room = page.room - asked_room page piece; writes = next_count page.writes }
