pub mod Answers
pub mod Decoding
pub mod Examples
