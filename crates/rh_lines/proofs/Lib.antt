pub mod FlowLemmas
pub mod SplitLemmas
pub mod DigitLemmas
pub mod LineLemmas
pub mod MannerLemmas
pub mod SpacedLemmas
pub mod TextLemmas
mod NumberLemmas
pub mod PenLemmas
