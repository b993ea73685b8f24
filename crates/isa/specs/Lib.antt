pub mod Access
pub mod Codes
pub mod Form
