mod Escapes
mod Inside
mod Slides
pub mod Alike
mod Worked
pub mod Reading
pub mod Elements
pub mod Figures
mod Ends
mod Retold
mod Dated
