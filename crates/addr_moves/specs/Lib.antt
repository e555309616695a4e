pub mod Firsts
pub mod Fates
pub mod Olds
pub mod Stays
pub mod within
