pub mod Limits
pub mod Form
pub mod Decimal
pub mod Column
pub mod Outcome
pub mod Token
