pub mod Decimal
pub mod LittleEndian
