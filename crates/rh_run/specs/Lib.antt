pub mod Checked
pub mod CheckedSlot
pub mod Inner
pub mod Safely
