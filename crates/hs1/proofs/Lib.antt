mod Keys
mod Strings
mod Sealing
pub mod Laws
