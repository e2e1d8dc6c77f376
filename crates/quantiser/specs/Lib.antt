pub mod Beside
pub mod Codes
pub mod Least
pub mod Palette
pub mod Tables
pub mod Threshold
pub mod Joined
pub mod Smallest
