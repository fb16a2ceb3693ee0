pub mod Packed
pub mod PageCalls
pub mod PageStatus
pub mod Room
