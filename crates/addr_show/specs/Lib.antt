pub mod FromCauses
pub mod Printing
pub mod AnalyzeText
pub mod Analyzing
pub mod Isolating
