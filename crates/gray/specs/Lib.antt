pub mod Levels
pub mod Scales
pub mod Mapping
pub mod Hard
pub mod Soft
pub mod Points
pub mod Inner
