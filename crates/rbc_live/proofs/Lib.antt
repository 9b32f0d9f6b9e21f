pub mod Steps
mod Witness
pub mod Runs
pub mod Counts
mod Words
mod Alike
mod LongMessages
mod LongStops
pub mod Writing
mod Taking
mod Cutting
mod Ending
mod Calling
pub mod Causing
pub mod NothingWaits
mod Changing
mod AlarmReasons
mod Saying
pub mod Following
pub mod Showing
