pub mod LongDivision
