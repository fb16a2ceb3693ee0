pub mod Inner
pub mod WideCalls
pub mod WideSlots
