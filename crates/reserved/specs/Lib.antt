pub mod Held
pub mod Reserved
