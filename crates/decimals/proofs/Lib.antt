pub mod Stores
pub mod Decimals
pub mod Written
pub mod Readings
