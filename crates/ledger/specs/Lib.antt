pub mod Counting
pub mod Report
pub mod Worked
pub mod Promises
