pub mod Deliveries
pub mod Heard
pub mod QuestionLaws
