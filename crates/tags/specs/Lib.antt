pub mod Names
pub mod Balances
pub mod Tag
