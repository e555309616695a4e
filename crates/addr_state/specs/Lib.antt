pub mod Numbers
pub mod Files
pub mod Rules
pub mod Sound
pub mod Reading
pub mod Written
pub mod within
