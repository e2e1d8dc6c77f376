pub mod Below
pub mod Made
