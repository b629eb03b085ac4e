pub mod Polynomial
pub mod Register
