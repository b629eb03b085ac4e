pub mod Wide
pub mod RecordRefusals
