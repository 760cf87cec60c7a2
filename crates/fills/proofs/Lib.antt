pub mod EndLaws
pub mod LeafLaws
pub mod NodeLaws
pub mod FillLaws
pub mod PreparedLaws
pub mod TurnLaws
