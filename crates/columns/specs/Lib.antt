pub mod Answer
pub mod Spelling
