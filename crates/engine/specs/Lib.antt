pub mod Fields
pub mod Given
pub mod Lent
pub mod Parts
pub mod Whole
