pub mod Polynomial
pub mod Code
pub mod NearCodeword
pub mod Promise
pub mod Field
pub mod Search
