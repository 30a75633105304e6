-- The laws that the functions' proofs share, and those of the kinds of a move.
pub mod Parts
pub mod Copying
pub mod Lent
pub mod MoveKinds
