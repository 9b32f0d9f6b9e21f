pub mod Fronts
pub mod Ends
pub mod Stretches
pub mod OneByOne
pub mod InWindows
