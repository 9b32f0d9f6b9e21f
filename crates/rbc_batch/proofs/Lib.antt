mod FirstLines
mod LineInputs
mod Existing
mod TooManyLines
mod Texts
mod ByEngine
mod Answering
mod Joined
pub mod Watched
