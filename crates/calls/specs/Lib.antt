pub mod Drives
pub mod Calls
pub mod Five
