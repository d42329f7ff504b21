-- Lemmas that other crates cite.
pub mod ConvertedValues
pub mod Literals
pub mod Nodes
pub mod PutTwice
pub mod Replaced
pub mod Steps
pub mod ViewedPaths
pub mod Views
