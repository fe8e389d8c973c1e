pub mod Kinds
pub mod Asked
pub mod Held
pub mod Counts
pub mod Tapes
pub mod Prices
