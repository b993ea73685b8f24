pub mod Pack
pub mod Packed
pub mod Shows
pub mod Tested
pub mod Trips
pub mod Unpack
pub mod Written
