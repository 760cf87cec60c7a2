pub mod NumberLaws
pub mod FieldLaws
pub mod NodeLaws
pub mod DueLaws
pub mod KindLaws
pub mod FileLaws
pub mod SomeLaws
