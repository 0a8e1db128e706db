pub mod Limits
pub mod Kind
pub mod Text
pub mod Held
