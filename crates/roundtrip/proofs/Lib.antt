pub mod ThereAndBack
pub mod RoundTrip
