pub mod Calls
pub mod Codes
pub mod Flat
pub mod LaidOut
pub mod Laws
pub mod View
