pub mod Bits
pub mod Field
pub mod Layout
pub mod Segment
pub mod Refusal
