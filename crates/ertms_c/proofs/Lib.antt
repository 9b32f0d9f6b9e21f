pub mod Filled
pub mod Frames
pub mod Named
pub mod OneAnswer
pub mod Results
pub mod Same
