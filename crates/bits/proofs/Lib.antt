pub mod Computed
pub mod Bits
pub mod Field
pub mod Layouts
pub mod Segments
pub mod Refusal
pub mod Slices
