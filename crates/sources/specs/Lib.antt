-- Keys of vectors.
pub mod Keys
-- The loops that are left in a walk.
pub mod Loops
