-- The run of a loop nest: rules, reference machine, run on tables, the claim about any list of
-- moves, layouts that no run tells apart, and the entry that makes a move.
pub mod Rules
pub mod Machine
pub mod Run
pub mod Words
pub mod Claim
pub mod Order
pub mod Example
pub mod Answer
pub mod Entry
pub mod Inner
