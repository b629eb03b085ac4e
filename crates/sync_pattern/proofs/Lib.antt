pub mod Patterns
pub mod Promises
