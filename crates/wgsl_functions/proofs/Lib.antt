pub mod Counts
pub mod Differs
pub mod Taken
