pub mod Hs1
pub mod Seal
pub mod Checks
pub mod Calls
pub mod Laws
pub mod Derived
