pub mod Claims
pub mod Local
pub mod Terms
