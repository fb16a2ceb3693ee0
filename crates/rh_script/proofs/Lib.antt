pub mod ReadLemmas
pub mod SegmentLemmas
pub mod PrintLemmas
pub mod GatherLemmas
pub mod Common
