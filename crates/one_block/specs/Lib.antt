pub mod Passage
pub mod Task
