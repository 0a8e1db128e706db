pub mod Job
pub mod Setting
pub mod Jobs
pub mod ValuesLemmas
pub mod Settings
