pub mod Members
pub mod Document
pub mod Options
pub mod Written
pub mod within
