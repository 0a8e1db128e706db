pub mod Says
pub mod Opening
