pub mod Walks
pub mod Fired
