pub mod Rows
pub mod Additions
pub mod Totals
pub mod Kinds
