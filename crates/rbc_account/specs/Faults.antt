-- The faults of telling a run.
use Rattle.std.specs.Prelude.{if◌then◌else◌}
use Rattle.rbc_text.specs.declared.outlet.WriteFault.{WriteFault}
use Rattle.rbc_account.specs.declared.lines.LineFault.{LineFault}
use Rattle.rbc_account.specs.declared.lines.LineFault.TheVariants as lines
use Rattle.rbc_account.specs.declared.fault.TellError.{TellError}
use Rattle.rbc_account.specs.declared.fault.TellError.TheVariants.{Read, Memory, Write, ReaderGone}

-- a fault of a writer
abbrev pub writing_fault : WriteFault → TellError
writing_fault fault = if fault.gone then ReaderGone fault.sent else Write fault.sent

-- a fault of lines that are read
abbrev pub reading_fault : LineFault → TellError
reading_fault lines.Read = Read
reading_fault lines.Memory = Memory
