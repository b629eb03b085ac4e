pub mod Computed
pub mod Table
pub mod Turn
pub mod Crc
pub mod Examples
pub mod Promises
