-- The theorems about texts (Numerals, LineBack, RoundTrip, SaysLaws, ReadPrefix), and the laws that
-- the functions' proofs share.
pub mod RoundTrip
pub mod Answers
pub mod Twelve
pub mod ReadPrefix
pub mod SaysLaws
pub mod FieldLaws
pub mod FieldBack
pub mod Numerals
pub mod LineBack
pub mod NestLines
pub mod Columns
pub mod TextLength
pub mod LineLaws
pub mod ShapeLaws
pub mod LastLine
pub mod EqualValues
pub mod StoreLaws
pub mod RowLaws
pub mod FillLaws
pub mod BodyLaws
pub mod ReadLaws
pub mod WriteLaws
pub mod WriteAnswers
