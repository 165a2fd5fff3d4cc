-- What the contracts of `questions` cite, and what every call answers.
pub mod Refusals
pub mod Questions
pub mod Answers
