-- What a row of a table is.
pub mod Rows
pub mod Answered
