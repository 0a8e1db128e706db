mod Opens
mod Keeps
mod Replays
mod Empty
