pub mod DecimalLaws
pub mod ReadLaws
pub mod PrintLaws
pub mod LittleEndianLaws
pub mod WidthLaws
pub mod Examples
pub mod PairLaws
