pub mod Ints
mod Chunks
mod Poly
mod Wrap
mod Turns
mod Blocks
mod Results
pub mod Whole
