pub mod Lacking
pub mod Once
pub mod Gaps
pub mod Tables
mod Reported
mod Acked
mod Near
pub use Rattle.rbc_maps.proofs.MapFacts
