-- A fault in a line, as one in a text.
use Rattle.std.specs.Prelude.{ℕ}
use Rattle.work_lang.specs.declared.fault.LineFault.{LineFault}
use Rattle.work_lang.specs.declared.fault.LineFault.TheVariants as faults
use Rattle.work_lang.specs.declared.fault.WorkFault.{WorkFault}
use Rattle.work_lang.specs.declared.fault.WorkFault.TheVariants as texts

abbrev pub fault_at : LineFault → ℕ → WorkFault
fault_at (faults.Slip s) line = texts.Text line s.word s.cause
fault_at faults.NoMemory line = texts.NoMemory
