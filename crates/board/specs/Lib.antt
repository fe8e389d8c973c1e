pub mod Quotes
pub mod Sides
pub mod SidesLemmas
pub mod Plates
pub mod Ladders
pub mod LaddersLemmas
pub mod Bests
pub mod PlatesLemmas
