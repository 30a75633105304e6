-- The three demands, proved, and that number 12 is not used. Assumes nothing.
pub mod FirstDemand
pub mod Unused
pub mod SecondDemand
pub mod ThirdDemand
