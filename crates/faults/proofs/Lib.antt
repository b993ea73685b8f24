pub mod Rows
pub mod Marks
