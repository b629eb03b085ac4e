pub mod BothFillings
pub mod Cases
