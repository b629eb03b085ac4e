pub mod Held
pub mod Flips
pub mod ErrorPlaces
