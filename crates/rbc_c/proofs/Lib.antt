pub mod Fed
pub mod Writing
pub mod Replies
pub mod RawBoxes
pub mod DeskPointers
