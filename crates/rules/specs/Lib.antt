pub mod Orders
pub mod Rankings
pub mod Trading
pub mod Sweeps
pub mod Calls
pub mod Precedences
