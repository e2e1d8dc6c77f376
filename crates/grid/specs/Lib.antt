pub mod Directions
pub mod Limits
pub mod Lines
pub mod Neighbours
pub mod Squares
