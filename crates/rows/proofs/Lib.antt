-- Laws of the definitions, which the functions' proofs cite.
pub mod Counts
pub mod RowLaws
pub mod SpanLaws
pub mod Answers
pub mod Ignored
pub mod PartLaws
