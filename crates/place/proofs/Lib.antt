pub mod Equality
pub mod Inverse
pub mod Search
pub mod Flags
pub mod Places
pub mod Promises
