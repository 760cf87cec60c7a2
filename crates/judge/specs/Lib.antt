pub mod Counts
pub mod Due
