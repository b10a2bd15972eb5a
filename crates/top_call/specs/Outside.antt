-- What a source and a sink show.
use Rattle.std.specs.Prelude.{ℕ, Bool, List}
use Rattle.std.specs.declared.option.Option.{Option}
use Rattle.work_lang.specs.declared.meter.Meter.{Meter}

-- the bytes left and the bytes taken, where they are told, how often reads and writes have failed, how far the source was
-- read, how often a write was tried, and whether a write takes a line whole or not at all
pub record Outside : Type 0 where
  pub left : Option (List ℕ)
  pub read_faults : ℕ
  pub meter : Meter
  pub taken : Option (List ℕ)
  pub write_faults : ℕ
  pub tries : ℕ
  pub whole : Bool

-- of a source and a sink, by what their types tell
abbrev pub outside : {S K : Type 0} → (S → Option (List ℕ)) → (S → ℕ) → (S → Meter) → (K → Option (List ℕ)) → (K → ℕ) → (K → ℕ) → (K → Bool) → S → K → Outside
outside left read_faults meter taken write_faults tries whole source sink = record {
  left = left source;
  read_faults = read_faults source;
  meter = meter source;
  taken = taken sink;
  write_faults = write_faults sink;
  tries = tries sink;
  whole = whole sink;
}
