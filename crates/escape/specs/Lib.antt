pub mod Characters
pub mod Escapes
pub mod Faults
pub mod Meaning
