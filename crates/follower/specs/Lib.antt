pub mod Follow
pub mod Promises
