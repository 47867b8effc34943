pub mod HexLaws
pub mod LineLaws
pub mod LinesBack
pub mod LongLines
pub mod Rows
