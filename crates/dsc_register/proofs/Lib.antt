pub mod State
pub mod Promises
pub mod Cases
