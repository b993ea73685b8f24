pub mod Modules
pub mod Runs
pub mod Worked
