pub mod Products
pub mod Promises
