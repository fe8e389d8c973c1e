pub mod Cells
mod Shift
pub mod Searches
pub mod Lex
pub mod Sorting
mod Runs
