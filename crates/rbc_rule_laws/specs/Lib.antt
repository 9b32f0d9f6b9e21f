pub mod Witnesses
