mod Spelled
mod Inner
