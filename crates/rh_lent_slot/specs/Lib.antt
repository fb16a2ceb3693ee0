pub mod Inner
pub mod LentPages
pub mod LentSlotChecks
pub mod SlotSlides
pub mod Slots
pub mod Write
