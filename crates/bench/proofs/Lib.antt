mod Decided
mod Printed
