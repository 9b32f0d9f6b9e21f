pub mod Drafts
pub mod Growth
pub mod Keys
pub mod Report
pub mod Sentences
pub mod Shown
