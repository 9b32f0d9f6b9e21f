pub mod Plan
pub mod Document
pub mod Reading
pub mod Outcomes
pub mod Inside
pub mod Behind
