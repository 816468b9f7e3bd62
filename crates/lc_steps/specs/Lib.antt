pub mod Replies
pub mod Stepping
pub mod StepView
pub mod StepParts
