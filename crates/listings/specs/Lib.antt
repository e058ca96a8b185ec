pub mod Rows
pub mod Listing
pub mod Examples
