pub mod Listed
pub mod Texts
mod PackedRows
mod StatusRows
