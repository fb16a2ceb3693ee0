pub mod Ends
pub mod Images
pub mod Claims
pub mod Far
pub mod Maps
