pub mod Division
pub mod Making
pub mod Products
pub mod Sums
