pub mod Order
pub mod Standing
pub mod Laws
