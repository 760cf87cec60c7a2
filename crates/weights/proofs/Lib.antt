pub mod PowerLaws
pub mod WeightLaws
pub mod MonotonyLaws
pub mod BetweenLaws
pub mod FillLaws
pub mod PresentLaws
pub mod LeafLaws
pub mod SpanLaws
