pub mod Degrees
pub mod Desk
pub mod Candidate
pub mod Promises
