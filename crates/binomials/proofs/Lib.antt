pub mod PascalLaws
pub mod Entries
