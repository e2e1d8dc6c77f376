pub mod Twins
pub mod Windows
pub mod Works
