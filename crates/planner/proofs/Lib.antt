-- The laws that the functions' proofs share.
pub mod Answers
pub mod Ignored
pub mod Bridge
pub mod LineLaws
pub mod ListLaws
pub mod PlanLaws
pub mod Sizes
pub mod Outermost
