pub mod Converted
pub mod Drafted
pub mod DraftCodes
pub mod Packed
pub mod Pictures
