pub mod CaptureReads
pub mod Promises
