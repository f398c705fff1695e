pub mod Carried
pub mod Filled
pub mod Played
pub mod Prefixes
