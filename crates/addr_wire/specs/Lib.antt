pub mod Connections
pub mod Counts
pub mod Listeners
pub mod MemConnections
pub mod MemConnectors
pub mod MemListeners
pub mod Talks
