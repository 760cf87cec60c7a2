pub mod Ends
pub mod Model
pub mod Refusals
pub mod Records
pub mod File
pub mod Part
pub mod Network
