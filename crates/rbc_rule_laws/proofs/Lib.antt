pub mod EachTrain
pub mod Keeps
pub mod KeepsPlaces
pub mod KeepsSlots
pub mod KeepsTrains
pub mod KeepsWorlds
pub mod Marks
pub mod OneSaid
pub mod Packets
pub mod Revokes
pub mod Says
pub mod SaysPlaces
pub mod SaysTold
pub mod Sendable
pub mod Tells
pub mod WitnessSays
pub mod WitnessWorlds
pub use Rattle.rbc_settle.proofs.Keeps as SettleKeeps
