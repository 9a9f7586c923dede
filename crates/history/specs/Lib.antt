pub mod Calls
pub mod Past
pub mod Demand1
pub mod Demand2
pub mod Listed
pub mod Wrong
pub mod Readers
pub mod LevelKept
