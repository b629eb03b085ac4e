pub mod AcBits
