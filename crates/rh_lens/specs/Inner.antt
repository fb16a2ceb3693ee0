-- Definitions that no clause of a public function stands on: those of private functions, loops and proofs.
pub mod FewRows
pub mod Flows
