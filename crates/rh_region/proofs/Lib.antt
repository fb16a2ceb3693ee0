pub mod BlockFields
pub mod Common
pub mod Filling
pub mod HeapCalls
pub mod PatchedLemmas
pub mod Runs
pub mod Words
pub mod Zeros
