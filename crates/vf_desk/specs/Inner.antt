-- Definitions that no clause of a public function stands on: those of private functions, loops and proofs.
pub mod BlockSteps
pub mod DeskLists
pub mod DeskSteps
pub mod FirstConsole
