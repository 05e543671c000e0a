pub mod Wrong
pub mod Five
pub mod Claims
