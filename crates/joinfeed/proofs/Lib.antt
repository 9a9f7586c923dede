pub mod LineLaws
pub mod StepLaws
pub mod CostLaws
pub mod LongestLaws
pub mod RunLaws
pub mod NoneLost
pub mod Cases
pub mod AnyBuffer
