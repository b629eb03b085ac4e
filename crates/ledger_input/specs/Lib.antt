pub mod Input
pub mod Promises
