pub mod Faults
pub mod Whole
pub use Rattle.ls_codecs.specs.Whole.{IsNarrow, IsPupil, IsStanding, IsStart, IsWhole}
