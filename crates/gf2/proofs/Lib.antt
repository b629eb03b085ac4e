pub mod Sum
pub mod Division
pub mod Register
