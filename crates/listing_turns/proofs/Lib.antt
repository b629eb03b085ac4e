pub mod TurnSizes
pub mod Room
pub mod Ahead
pub mod Promises
