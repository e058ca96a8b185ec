pub mod Lengths
pub mod Runs
pub mod Inside
pub mod Outside
pub mod Fuel
pub mod Whole
pub mod Lawful
pub mod Faults
