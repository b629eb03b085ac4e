pub mod AcValues
pub mod Cases
