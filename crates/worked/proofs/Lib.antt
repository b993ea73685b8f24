mod Lengths
mod Counts
mod Breaches
mod Loads
mod Spent
mod Grants
mod Cases
