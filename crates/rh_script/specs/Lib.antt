pub mod Inner
pub mod NamedSlots
