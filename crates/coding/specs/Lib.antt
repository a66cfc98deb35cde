pub mod Bits
pub mod Polynomial
pub mod Remainder
pub mod Word
