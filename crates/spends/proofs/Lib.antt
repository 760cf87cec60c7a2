pub mod NodeLaws
pub mod JoinLaws
pub mod TableLaws
