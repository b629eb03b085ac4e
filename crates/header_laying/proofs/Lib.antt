pub mod Laying
pub mod Promises
pub mod Worked
