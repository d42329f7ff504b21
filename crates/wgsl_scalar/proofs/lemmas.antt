-- Lemmas that other crates cite.
pub mod BitLaws
pub mod CommonKinds
pub mod InKind
pub mod Ranges
pub mod Reversed
pub mod WordBits
