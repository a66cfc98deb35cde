pub mod Good
pub mod Print
pub mod Troubled
