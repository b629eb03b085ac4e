mod Cases
pub mod Promises
