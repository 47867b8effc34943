pub mod PlayLaws
pub mod LongLines
pub mod Pieces
pub mod FeedLaws
pub mod LensWindowsKept
