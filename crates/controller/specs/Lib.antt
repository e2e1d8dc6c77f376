pub mod Exports
pub mod Packing
pub mod Readings
