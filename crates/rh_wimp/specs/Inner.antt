-- Definitions that no clause of a public function stands on: those of private functions, loops and proofs.
pub mod ChainEdits
pub mod Deaths
pub mod LetterRefusals
pub mod LooseMessages
pub mod ReadAs
pub mod Searches
pub mod Settling
