pub mod Advances
pub mod Countings
pub mod Characters
