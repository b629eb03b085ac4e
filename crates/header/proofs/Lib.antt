pub mod Computed
pub mod Fields
pub mod Sealed
pub mod Parts
pub mod Headers
pub mod Promises
pub mod Worked
