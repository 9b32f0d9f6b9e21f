pub mod Known
pub mod Waits
pub mod Causes
pub mod Alarms
pub mod Watching
pub mod AlarmLaws
pub mod Serial
pub mod History
pub mod Witnesses
pub mod Lines
pub mod Answers
pub mod GoingOn
pub mod Calls
pub mod UnderWay
pub use Rattle.rbc_text.specs.Held
pub use Rattle.rbc_text.specs.Serial as DeskSerial
