pub mod Attributes
pub mod Faults
pub mod Hexadecimal
pub mod Lines
pub mod TypeWords
pub mod Words
