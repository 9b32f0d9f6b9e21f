pub mod Serial
pub mod Sendable
pub mod Held
pub mod Answers
pub mod SaidMails
pub mod Witnesses
