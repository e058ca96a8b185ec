pub mod Texts
pub mod Tables
pub mod Walks
pub mod Laws
pub mod Openings
pub mod Defaults
