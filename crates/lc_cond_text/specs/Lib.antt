pub mod ConditionText
pub mod CounterLines
pub mod Recalled
pub mod LinesView
pub mod Waiting
pub mod Shown
pub mod Chosen
