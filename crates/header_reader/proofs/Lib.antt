pub mod FieldsRead
pub mod Zeros
pub mod HeaderRefusals
