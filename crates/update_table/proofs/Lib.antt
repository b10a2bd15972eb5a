pub mod CallFacts
pub mod MoveLaws
pub mod Storing
pub mod Trying
pub mod ValueAnswers
