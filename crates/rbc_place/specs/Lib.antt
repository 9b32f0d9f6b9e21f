pub mod Placing
pub mod Reach
pub mod Reporting
pub mod Witnesses
pub mod ReportWitnesses
pub use Rattle.rbc_track.specs.Plan
pub use Rattle.rbc_track.specs.declared.group.Way
