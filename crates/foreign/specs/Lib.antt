-- What is lent and answered, as numbers in a row.
pub mod Numbers
