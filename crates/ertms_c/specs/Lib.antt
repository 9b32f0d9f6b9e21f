pub mod Faults
pub mod Given
pub mod ToTrainFields
pub mod FromTrainFields
pub mod Encoding
