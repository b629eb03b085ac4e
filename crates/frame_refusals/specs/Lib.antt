pub mod Preamble
pub mod Word
