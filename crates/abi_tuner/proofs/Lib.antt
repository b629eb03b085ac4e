pub mod Tuners
