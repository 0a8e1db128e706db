pub mod ChaCha
pub mod Rounds
pub mod Words
