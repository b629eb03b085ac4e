mod Tables
pub mod Refused
mod Accepted
pub mod Promises
