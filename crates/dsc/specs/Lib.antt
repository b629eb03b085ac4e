pub mod Code
pub mod CheckTable
pub mod Repair
pub mod Marks
pub mod Majority
pub mod Encoding
pub mod Promises
pub mod Worked
