pub mod Causes
pub mod Faults
pub mod Lists
pub mod Tables
pub mod Shown
