pub mod Longest
pub mod Within
pub mod Written
pub mod Told
