pub mod Answers
pub mod Lines
pub mod Outcome
pub mod Taken
