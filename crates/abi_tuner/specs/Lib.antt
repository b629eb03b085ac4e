pub mod Tuner
