pub mod Weight
pub mod Centre
pub mod States
pub mod Coverage
pub mod Cells
pub mod Pairs
pub mod Run
