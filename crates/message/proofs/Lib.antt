pub mod TestLaws
pub mod SectionLaws
pub mod EntryLaws
pub mod LayoutLaws
pub mod QuestionLaws
pub mod CueLaws
