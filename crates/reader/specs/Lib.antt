pub mod Limits
pub mod Faults
pub mod Views
pub mod Opens
pub mod Rests
