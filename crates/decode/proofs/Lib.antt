mod Decoded
mod Evaluated
mod Sizes
pub mod Faults
