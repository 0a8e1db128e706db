pub mod Opens
pub mod Keeps
pub mod Twice
