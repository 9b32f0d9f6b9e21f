pub mod SentLine
