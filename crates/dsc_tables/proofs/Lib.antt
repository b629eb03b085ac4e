pub mod TableRule
