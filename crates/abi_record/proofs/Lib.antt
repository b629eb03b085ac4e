pub mod Stored
pub mod Promises
