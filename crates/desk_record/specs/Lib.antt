pub mod DeskRecord
pub mod Promises
