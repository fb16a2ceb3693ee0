-- Definitions that no clause of a public function stands on: those of private functions, loops and proofs.
pub mod PieceWords
pub mod TextWrites
pub mod Fronts
pub mod OneProof
pub mod MannerWords
