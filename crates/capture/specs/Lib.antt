pub mod Capture
pub mod Promises
