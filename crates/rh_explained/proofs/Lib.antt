mod ExplainedRows
pub mod SaidLemmas
pub mod ShownLemmas
pub mod WordLemmas
