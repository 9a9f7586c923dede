pub mod Feed
pub mod Printing
pub mod Kept
pub mod Longest
pub mod Cases
pub mod AnyBuffer
