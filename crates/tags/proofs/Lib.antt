mod Literals
mod Dots
mod Operated
