pub mod Layout
pub mod Fields
pub mod Tests
pub mod Header
pub mod Promises
pub mod Worked
