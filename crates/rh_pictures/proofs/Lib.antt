pub mod ShareLemmas
pub mod ScriptLemmas
pub mod MapLemmas
pub mod PlaceLemmas
pub mod TextWalks
pub mod TextPuts
pub mod ElementLemmas
pub mod PageLemmas
pub mod UnderLemmas
pub mod PostLemmas
pub mod ReturnLemmas
pub mod DrawingLemmas
pub mod TransferLemmas
pub mod FigureLemmas
pub mod MarkLemmas
pub mod MapRunLemmas
pub mod CardLemmas
pub mod HeapLemmas
pub mod ExcerptLemmas
pub mod AnswerLemmas
mod HandedLemmas
pub mod MapStepLemmas
pub mod Common
pub mod BandLemmas
pub mod SlotLemmas
pub mod LensLemmas
mod LensPieces
mod LensTells
mod LensLooks
mod ShownAnchorLemmas
pub mod OwnerLemmas
mod WalkLemmas
mod SheetLemmas
mod SheetRunLemmas
mod NumberLemmas
mod WayLemmas
mod NoteLemmas
mod TableLemmas
mod ChartLemmas
mod AsideLemmas
mod SheetStepLemmas
mod TakeLemmas
mod PrintLemmas
