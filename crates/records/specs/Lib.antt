pub mod Faults
pub mod Taken
pub mod Tokens
