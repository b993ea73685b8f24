pub mod Text
pub mod Measured
