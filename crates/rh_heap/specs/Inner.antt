-- Definitions that no clause of a public function stands on: those of private functions, loops and proofs.
pub mod HolePuts
pub mod HolesPassed
pub mod ListedBefore
pub mod SegmentsAround
pub mod StartNotes
pub mod WayEnds
