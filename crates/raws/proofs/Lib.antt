pub mod Tags
pub mod Spells
pub mod Found
pub mod Bodies
