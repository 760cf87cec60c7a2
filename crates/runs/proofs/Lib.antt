pub mod StartLaws
pub mod SpentLaws
pub mod WholeLaws
