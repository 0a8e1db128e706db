pub mod Sheet
pub mod Sealing
pub mod Refused
