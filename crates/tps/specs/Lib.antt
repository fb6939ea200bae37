pub mod Codes
pub mod Word
pub mod Packing
pub mod Send
pub mod Receive
pub mod Frame
pub mod Lent
