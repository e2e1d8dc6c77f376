pub mod Cut
pub mod Promised
pub mod Turns
