pub mod Shapes
pub mod Lines
pub mod Lists
pub mod Sealed
pub mod Answered
pub mod Measured
