-- Definitions that no clause of a public function stands on: those of private functions, loops and proofs.
pub mod CommandAnswers
pub mod ItemsByOwner
pub mod MadeNumbers
pub mod Nouns
pub mod PollSteps
pub mod RawSteps
pub mod Saves
pub mod Start
