-- The plan of a loop nest and its listing.
pub mod Plan
pub mod Answered
pub mod Listing
pub mod Examples
