pub mod BusiestLaws
