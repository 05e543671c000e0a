pub mod Text
pub mod Records
pub mod Lines
pub mod Run
pub mod SessionRun
