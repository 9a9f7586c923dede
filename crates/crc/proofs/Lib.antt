pub mod XorLaws
pub mod CrcLaws
pub mod PairLaws
pub mod TableLaws
pub mod Cases
