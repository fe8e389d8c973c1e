mod Loops
mod Searches
mod Steps
mod Entries
mod Changes
mod Tapes
mod Prices
