pub mod AnswerLines
pub mod AttributeWords
pub mod Hexadecimals
pub mod LaidOut
pub mod Numbers
pub mod Splits
pub mod Templates
