pub mod Stands
pub mod Firsts
mod Chunks
