mod Settled
mod Tiles
mod Columns
pub mod Alike
mod Still
mod WorkedMaps
