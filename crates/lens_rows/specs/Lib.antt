pub mod RowItems
