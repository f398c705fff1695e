pub mod Counted
pub mod Path
pub mod Calls
pub mod Standing
pub mod Values
