pub mod Defaults
pub mod Spots
pub mod Patterns
pub mod Order
pub mod Meant
