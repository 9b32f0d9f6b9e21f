pub mod Lines
pub mod Marking
pub mod Meaning
pub mod InWords
pub mod Explaining
pub mod Sentenced
pub mod Told
