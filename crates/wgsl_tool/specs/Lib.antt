pub mod Flags
pub mod Stages
