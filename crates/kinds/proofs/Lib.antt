pub mod Cut
pub mod Sheets
pub mod Measured
pub mod Overwrite
pub mod Along
