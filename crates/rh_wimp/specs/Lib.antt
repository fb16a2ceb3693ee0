pub mod Chains
pub mod Inner
pub mod Moves
pub mod PostIn
pub mod QueueCalls
pub mod QueueItems
pub mod QueueLaws
pub mod TableLends
