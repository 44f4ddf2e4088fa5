pub mod JournalLaws
pub mod Telling
pub mod QuestionLaws
