pub mod Refusals
pub mod Ports
pub mod Lawful
pub mod Axis
pub mod Table
pub mod Response
