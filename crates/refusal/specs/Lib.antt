pub mod Number
pub mod Party
