pub mod Draws
pub mod Tickets
