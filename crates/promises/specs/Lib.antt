-- The three demands (document 00) as three statements, and with the first what it is that a number
-- is not used. Assumes nothing.
pub mod Iterations
pub mod Demand1
pub mod Demand2
pub mod Demand3
