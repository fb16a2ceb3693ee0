mod FreshLaws
mod PrintLaws
mod SaidLaws
pub mod Pairs
pub mod SeenLaws
pub mod CallLaws
pub mod FormLaws
pub mod FillLaws
pub mod ListLaws
pub mod SegmentLaws
pub mod FileLaws
pub mod OpeningLaws
pub mod LineLaws
pub mod AskLaws
pub mod BlockEditLaws
pub mod BlockReadLaws
pub mod NextLaws
pub mod Common
