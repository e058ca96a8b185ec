pub mod Rows
pub mod Chars
pub mod Laws
pub mod Places
pub mod Parts
