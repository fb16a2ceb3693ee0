pub mod Inner
pub mod MapAreas
pub mod MapCards
pub mod MapMessages
pub mod MapTasks
pub mod Replies
pub mod Sides
pub mod Written
