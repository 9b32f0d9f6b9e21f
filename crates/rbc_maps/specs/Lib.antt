pub mod Maps
pub mod Numbered
pub mod OnLines
pub mod Chains
