-- What contracts see of a log and of its tickets (own rule).
use Rattle.std.specs.Prelude.{ℕ, ◌+◌, Option, Some, None}
use Rattle.boxcar.specs.Table.{Where, Shelves, Shows}
use Rattle.rbc_versions.specs.declared.log.Version.{Version}

-- a name for a log, which no other log has
abbrev pub LogName : Type 0
LogName = Shelves

-- a ticket: its index, which is its number less 1, its version, and where the version lies
abbrev pub Shown : Type 0
Shown = Where Version

-- the ticket is of the log
abbrev pub IsOf : LogName → Shown → Type 0
IsOf log ticket = Shows log ticket

-- the number of a ticket, and 0 for none
abbrev pub number_of : Option Shown → ℕ
number_of None = 0
number_of (Some ticket) = ticket.index + 1
