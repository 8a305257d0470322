pub mod Created
pub mod Items
pub mod Observed
pub mod Settings
pub mod Stages
pub mod Standing
pub mod TermLaws
pub mod StepTimes
