pub mod Hints
pub mod Readings
pub mod View
pub mod FewSteps
pub mod HintView
pub mod Files
