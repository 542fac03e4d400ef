pub mod ReplyTexts
pub mod AnswerOf
