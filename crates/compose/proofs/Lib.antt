pub mod EntryLaws
pub mod PutLaws
pub mod GiveLaws
