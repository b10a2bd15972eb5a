mod KnownSteps
pub mod Back
pub mod CallLines
pub mod Calls
pub mod Firsts
pub mod FormReads
pub mod Found
pub mod Indexes
pub mod Items
pub mod Keeping
pub mod Lines
pub mod Lists
pub mod Names
pub mod OperandForms
pub mod OperandTexts
pub mod OrderTexts
mod Meters
mod Tries
pub mod Pieces
pub mod Counters
pub mod CanonicalSteps
pub mod CanonicalTexts
pub mod Runs
pub mod Scripts
pub mod Spelled
pub mod Steps
pub mod Values
pub mod Walks
mod Drawing
pub mod GeneratedWorks
pub mod SameLines
pub mod Cutting
pub mod LongestRuns
pub mod SecondForms
pub mod Cuts
pub mod FaultLines
pub mod TextFacts
