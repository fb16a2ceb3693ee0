pub mod Inner
pub mod NewAreas
pub mod UsedTasks
pub mod Wimp
