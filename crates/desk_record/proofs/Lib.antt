pub mod DeskRecords
pub mod Promises
