pub mod Spell
pub mod Found
pub mod Numbers
