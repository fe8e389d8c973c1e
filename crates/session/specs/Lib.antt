pub mod Listing
pub mod Pages
pub mod Markets
pub mod Sessions
