pub mod Applying
pub mod States
pub mod QuestionLaws
