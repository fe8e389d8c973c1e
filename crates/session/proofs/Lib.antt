mod Writing
mod Lengths
mod Playing
mod Sessions
mod Ending
