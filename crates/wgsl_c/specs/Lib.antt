pub mod Answers
pub mod Asked
pub mod Expressions
pub mod Faults
pub mod Records
