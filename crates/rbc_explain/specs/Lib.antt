pub mod Log
pub mod Marked
pub mod Reasons
pub mod Said
pub mod Sentences
pub mod Telling
pub use Rattle.rbc_account.specs.Telling as AccountTelling
pub use Rattle.rbc_account.specs.declared.fault.TellError
