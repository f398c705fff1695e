pub mod Greatest
pub mod Total
pub mod Heights
