pub mod Steps
pub mod Rows
pub mod Described
pub mod Readings
pub mod Printed
