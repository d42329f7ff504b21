pub mod FieldBits
pub mod FieldLaws
pub mod OperandLaws
pub mod Quotients
pub mod Words
pub mod Wraps
pub mod lemmas
pub mod rows
