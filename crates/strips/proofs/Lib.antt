pub mod Behind
pub mod Whites
pub mod Strips
