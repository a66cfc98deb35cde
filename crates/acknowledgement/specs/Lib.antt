pub mod Acu
