pub mod KeptLaws
pub mod Pieces
pub mod PutLaws
