pub mod Operators
pub mod Quotes
pub mod Names
