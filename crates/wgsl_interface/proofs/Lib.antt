pub mod Booleans
pub mod FirstBindings
pub mod Marks
pub mod Members
pub mod NoFaults
pub mod Searches
pub mod SharedTypes
pub mod Told
