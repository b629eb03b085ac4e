pub mod Cases
pub mod Places
pub mod Promises
