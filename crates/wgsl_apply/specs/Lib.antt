pub mod Calls
pub mod Literals
pub mod Refused
pub mod Standard
pub mod Zeros
