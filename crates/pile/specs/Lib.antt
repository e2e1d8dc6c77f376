pub mod Piles
pub mod LaidLaws
