pub mod Arrays
pub mod Fours
pub mod Masks
