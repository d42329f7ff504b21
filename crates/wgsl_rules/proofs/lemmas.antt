-- Lemmas that other crates cite.
pub mod CommonTypes
pub mod Converted
pub mod Known
pub mod Members
pub mod Paths
pub mod Slices
pub mod Tests
pub mod Views
