pub mod Table
pub use Rattle.rbc_maps.specs.Maps
pub use Rattle.rbc_maps.specs.Numbered
