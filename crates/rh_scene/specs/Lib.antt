pub mod Inner
pub mod Seen
pub mod SightMessages
pub mod SightOwners
pub mod SightPages
pub mod Steps
pub mod Walks
