pub mod LyingLaws
pub mod CaseLaws
pub mod ClaimProof
