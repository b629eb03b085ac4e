pub mod Steps
pub mod Octets
