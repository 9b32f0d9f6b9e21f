mod LineWords
pub mod Texts
pub mod Calling
pub mod LineFits
pub mod LastSpaces
pub mod LinePieces
pub mod ResultLines
pub mod HexDigits
pub mod HexWords
pub mod DigitValues
pub mod Ranges
pub use Rattle.rbc_desk.proofs.Begins
pub use Rattle.rbc_desk.proofs.Mails
pub use Rattle.rbc_desk.proofs.Posts
pub use Rattle.rbc_desk.proofs.Sends
