pub mod Reading
pub mod SimText
