pub mod Verdicts
pub mod Answers
pub mod VerdictView
pub mod Walking
pub mod Progress
pub mod UpTo
pub mod Stages
pub mod Sessions
