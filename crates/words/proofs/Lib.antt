mod Laws
mod Quotients
mod Readings
