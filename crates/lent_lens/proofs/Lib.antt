pub mod LensLaws
pub mod Kept
