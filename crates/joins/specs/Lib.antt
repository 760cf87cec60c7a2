pub mod Walk
pub mod Loops
pub mod Flat
pub mod Join
