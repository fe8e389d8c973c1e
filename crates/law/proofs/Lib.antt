mod Branches
mod Finding
mod Counting
mod Quotations
mod Holding
mod Conditions
mod Steps
mod Sweeping
mod Volumes
mod Markets
mod Refusals
mod Entering
mod Changing
mod Lights
pub mod Tapes
mod Objecting
mod Shares
pub mod Rows
pub mod Ranges
mod Deciding
