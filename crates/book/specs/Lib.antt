pub mod Book
pub mod Keys
pub mod Answers
pub mod Stands
pub mod Law
