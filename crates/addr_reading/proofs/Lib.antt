pub mod StepLaws
pub mod ListLaws
