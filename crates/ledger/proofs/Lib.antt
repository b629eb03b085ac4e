pub mod Possible
pub mod Verdicts
pub mod Lists
pub mod Counted
pub mod Rows
pub mod Given
pub mod Reports
mod Worked
pub mod Promises
