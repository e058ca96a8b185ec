pub mod Delims
pub mod Names
pub mod Faults
pub mod Building
pub mod Drafts
pub mod Openings
