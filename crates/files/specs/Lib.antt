pub mod Fields
pub mod Lines
pub mod Files
pub mod Written
pub mod Packing
pub mod Faults
pub mod Cursors
pub mod Calls
