pub mod Sums
pub mod Promises
