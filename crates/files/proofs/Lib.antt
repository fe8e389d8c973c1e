mod Words
mod Parting
mod Entries
mod Spacing
mod Values
mod Lines
mod LayingOut
pub mod Laws
mod Packing
mod Writes
mod Firsts
