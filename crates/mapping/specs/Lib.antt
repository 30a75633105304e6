-- The mapping of blocks to the processors of a hypercube (000, algorithm 2; document 01,
-- "Card" and "Card message").
pub mod Mapping
-- The printed list of Gray codes (document 02, U5).
pub mod GrayCodes
-- The groups of the iterations as numbers in a table.
pub mod GroupNumbers
-- Messages as they are counted from a table of the index points' keys.
pub mod ByKeys
-- Directions as the code holds them.
pub mod Held
