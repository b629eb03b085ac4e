pub mod Pattern
pub mod Promises
