-- The laws of the run, and the proof of the claim.
pub mod Base
pub mod RuleLaws
pub mod MachineLaws
pub mod TableLaws
pub mod OrderLaws
pub mod Demand
pub mod WordLaws
pub mod Answers
pub mod Ignored
pub mod ExampleRun
pub mod BitLaws
pub mod FindingLaws
pub mod SourceLaws
pub mod EntryLaws
pub mod EntryRuns
