pub mod Parts
pub mod Process
pub use Rattle.rbc_engine.specs.Answers
pub use Rattle.rbc_engine.specs.Stats
pub use Rattle.rbc_text.specs.BatchText
pub use Rattle.ertms_codec.specs.Pieces
