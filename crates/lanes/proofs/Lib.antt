pub mod Number
pub mod Lanes
pub mod Windows
pub mod Adders
