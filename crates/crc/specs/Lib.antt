pub mod Crc
pub mod Remainders
pub mod Examples
pub mod Promises
