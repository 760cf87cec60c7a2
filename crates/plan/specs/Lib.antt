pub mod Table
pub mod Steps
pub mod Lowered
pub mod Asking
