-- Definitions that no clause of a public function stands on: what opens others for a proof that computes.
pub mod ComputingMaps
