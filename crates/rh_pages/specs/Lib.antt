pub mod Inner
pub mod Paged
pub mod Pages
pub mod Table
