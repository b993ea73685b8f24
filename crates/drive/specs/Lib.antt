pub mod Calls
pub mod Log
pub mod View
pub mod Questions
pub mod Law
