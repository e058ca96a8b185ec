pub mod Runs
pub mod Alike
pub mod Seeking
