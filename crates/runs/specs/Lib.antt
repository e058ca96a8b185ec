pub mod Calls
pub mod Whole
pub mod Named
pub mod Closed
pub mod Piles
pub mod Resting
pub mod Runs
