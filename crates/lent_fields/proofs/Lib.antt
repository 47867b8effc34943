pub mod ByteLaws
pub mod Codec
pub mod ManyLaws
pub mod Options
