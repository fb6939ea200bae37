pub mod Desk
pub mod SuperFrame
