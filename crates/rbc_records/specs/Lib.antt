pub mod ToldBits
pub mod Extents
pub mod SoughtTrains
pub mod Notes
pub mod Writes
pub mod Seeking
pub mod Columns
