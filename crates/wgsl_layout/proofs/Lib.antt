pub mod AtomicParts
pub mod Copies
pub mod HeldBytes
pub mod LaidParts
pub mod LaidValues
pub mod Locating
pub mod Making
pub mod NumberPuts
pub mod Outcomes
pub mod Plans
pub mod Reading
pub mod Totals
pub mod Writing
pub mod lemmas
pub mod rows
mod Arrays
mod Copying
mod FlatParts
mod FlatPuts
mod LayoutParts
mod Sharing
