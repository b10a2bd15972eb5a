-- The number of each status.
use Rattle.std.specs.Prelude.{ℕ, Bool, true, false}
use Rattle.top_call.specs.declared.status.Status.{Status}
use Rattle.top_call.specs.declared.status.Status.TheVariants.{Done, Refused, Usage, ReadFault, WriteFault, NoMemory}

-- the number with which a process ends
abbrev pub code_of : Status → ℕ
code_of Done = 0
code_of Refused = 1
code_of Usage = 2
code_of ReadFault = 3
code_of WriteFault = 4
code_of NoMemory = 5

-- whether the usage line is due
abbrev pub usage_is_due : Status → Bool
usage_is_due Done = false
usage_is_due Refused = false
usage_is_due Usage = true
usage_is_due ReadFault = false
usage_is_due WriteFault = false
usage_is_due NoMemory = false

-- the status of a call after which its sink was closed: where that failed, the sink failed
abbrev pub closed_as : Bool → Status → Status
closed_as true status = status
closed_as false status = WriteFault
