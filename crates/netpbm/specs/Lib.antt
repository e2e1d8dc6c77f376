pub mod Files
pub mod Pbm
pub mod Pgm
pub mod Words
