pub mod DidLaws
pub mod StepLaws
