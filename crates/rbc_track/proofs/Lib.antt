pub mod Rows
pub mod Entries
pub mod Numbered
pub mod Plans
pub mod Rising
pub mod Bounds
pub mod Found
pub mod Nearest
