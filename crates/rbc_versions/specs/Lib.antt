pub mod Log
pub mod Entries
