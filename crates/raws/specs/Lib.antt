pub mod Waiting
pub mod Closers
