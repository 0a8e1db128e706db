pub mod Suites
pub mod Bytes
pub mod Calls
