pub mod Images
pub mod Starts
pub mod PlaceLaws
pub mod WideLaws
pub mod WideStarts
