pub mod MapEdits
pub mod MapFacts
pub mod MapPlaces
pub mod MapValues
pub mod Marked
pub mod Beside
pub mod Chained
