pub mod Lines
pub mod Steps
pub mod Longest
pub mod Cases
pub mod NoneLost
pub mod AnyBuffer
