pub mod Bands
pub mod Draft
pub mod Drawings
pub mod Neighbourhoods
pub mod Sets
pub mod Sweeps
pub mod Tallies
pub mod Theorems
