mod Closes
mod Means
pub mod Steps
