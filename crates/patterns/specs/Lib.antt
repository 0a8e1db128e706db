pub mod Pattern
pub mod Finding
pub mod Steps
