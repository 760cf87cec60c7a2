pub mod LoweredLaws
pub mod NumberedLaws
