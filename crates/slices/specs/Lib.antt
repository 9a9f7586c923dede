pub mod Cut
pub mod Put
pub mod Tests
pub mod Quoted
pub mod Listed
