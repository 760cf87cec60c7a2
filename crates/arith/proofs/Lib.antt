pub mod CappedLaws
