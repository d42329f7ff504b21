pub mod Functions
pub mod Names
pub mod Parameters
pub mod Standard
pub mod Written
