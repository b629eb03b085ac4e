pub mod Counts
pub mod Cuts
pub mod NextLine
pub mod Verdicts
pub mod LineLengths
pub mod Promises
