pub mod Sets
pub mod Runs
pub mod Tails
pub mod Before
pub mod Lines
