mod Courses
mod Cutting
mod Delivered
mod Ending
mod FirstWrongWord
mod Forms
mod LastWords
mod Outlooks
mod Passing
mod Refused
mod Settled
mod ShortWords
mod Turning
mod WordsAt
pub mod SameTexts
pub mod Spellings
pub mod TextCases
pub mod TextLaws
