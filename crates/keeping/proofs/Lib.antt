pub mod KeptLaws
pub mod LineTexts
