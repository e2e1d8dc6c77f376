pub mod Binary
pub mod Unpacked
