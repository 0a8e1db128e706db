pub mod Opened
pub mod Judged
pub mod Passing
pub mod Boxed
