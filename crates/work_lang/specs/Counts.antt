-- What every source and every sink tells, also one that tells no bytes: how far it was read, and how often it was asked.
use Rattle.std.specs.Prelude.{◌≡◌, ℕ, ◌+◌, ◌-◌, ◌≤◌, ◌⊎◌, min, Bool, true, false, Result, Ok, Err, ◌&&◌, nat_lt, ◌==◌, if◌then◌else◌}
use Rattle.work_lang.specs.Faults.{last_count}
use Rattle.work_lang.specs.declared.meter.Meter.{Meter}

-- a count that is raised by so many, and stands still at its last value
abbrev pub raised : ℕ → ℕ → ℕ
raised count by = count + min by (last_count - count)

-- of a source that wasn't read
abbrev pub new_meter : Meter
new_meter = record { given = 0; stops = 0; stopped = false }

-- after a read that failed or ended the input
abbrev pub after_stop : Meter → Meter
after_stop meter = record meter { stops = raised meter.stops 1; stopped = true }

-- after a read that gave so many bytes, with this much room: none, though there was room, is the end of the input
abbrev pub after_bytes : Meter → ℕ → ℕ → Meter
after_bytes meter count room = if (count == 0) && nat_lt 0 room then after_stop meter else record meter { given = raised meter.given count; stopped = false }

-- after a read with this much room
abbrev pub meter_after : {E : Type 0} → Meter → Result ℕ E → ℕ → Meter
meter_after meter (Ok count) room = after_bytes meter count room
meter_after meter (Err e) room = after_stop meter

-- what was read since: so many bytes, and no read failed or ended the input
pub record ReadSoFar (old new : Meter) (count : ℕ) : Type 0 where
  pub given : new.given ≡ raised old.given count
  pub stops : new.stops ≡ old.stops

-- what was read since: so many bytes, and then one read that failed or ended the input, after which none was made
pub record ReadToStop (old new : Meter) (count : ℕ) : Type 0 where
  pub given : new.given ≡ raised old.given count
  pub stops : new.stops ≡ raised old.stops 1
  pub stopped : new.stopped ≡ true

-- at most this many bytes were read, and no read was made after one that failed or ended the input
abbrev pub ReadsNoFurther : ℕ → Meter → Meter → Type 0
ReadsNoFurther most old new = (count : ℕ) × (count ≤ most) × (ReadSoFar old new count ⊎ ReadToStop old new count)
