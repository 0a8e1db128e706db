pub mod Strength
pub mod Bytes
pub mod Nh
pub mod Hash
pub mod Subkeys
pub mod Message
pub mod Running
pub mod Hasher
