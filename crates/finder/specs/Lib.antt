pub mod Finding
pub mod Names
