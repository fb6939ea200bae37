pub mod Permutation
pub mod Interleaving
pub mod Inner
