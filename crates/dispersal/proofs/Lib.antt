pub mod Mirror
pub mod Register
pub mod MirroredRegister
pub mod Outputs
pub mod Streams
pub mod Whitening
pub mod Determined
