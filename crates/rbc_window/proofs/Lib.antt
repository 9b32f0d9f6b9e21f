pub mod Hearings
pub mod Taking
pub mod Pushed
pub mod ChangedLists
pub mod Gathers
pub mod Shared
pub mod Serial
pub mod Done
