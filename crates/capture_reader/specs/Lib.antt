pub mod CaptureRead
pub mod Promises
