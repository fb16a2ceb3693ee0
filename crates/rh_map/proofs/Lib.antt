mod LineLemmas
pub mod TextLemmas
pub mod Left
pub mod RowLemmas
pub mod CardLemmas
mod FillLemmas
mod WordLemmas
mod LetterLemmas
pub mod FrontLemmas
pub mod SeamLemmas
pub mod Common
