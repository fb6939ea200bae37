-- Laws of IEEE binary32 alone, of no level and no constellation.
pub mod Patterns
pub mod PatternOrder
pub mod Values
pub mod Closest
pub mod Rounding
pub mod Magnitudes
pub mod Differences
pub mod Large
pub mod Least
pub mod First
