pub mod Closures
pub mod Instances
pub mod Laws
pub mod Lift
pub mod Literals
pub mod Vectors
