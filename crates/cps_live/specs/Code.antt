-- What serves the code alone, and no reader need believe.
pub mod Append
pub mod ChunkList
pub mod Splicing
pub mod Differences
pub mod Editing
pub mod Exchanged
pub mod FirstPass
pub mod Kept
pub mod MovedPass
pub mod NamesRead
pub mod Redone
pub mod SecondPass
pub mod StillChunks
pub mod Storing
