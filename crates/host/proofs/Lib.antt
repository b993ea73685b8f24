pub mod Fronts
pub mod SamePorts
pub mod Sweep
pub mod Ticks
