-- All that is claimed holds, and the wrong engines fall. Assumes nothing.
pub mod Wrong
pub mod Five
pub mod Rules
pub mod Claims
