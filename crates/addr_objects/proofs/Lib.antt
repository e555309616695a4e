pub mod Filled
mod HomeLemmas
mod MissLemmas
mod PickLemmas
mod PlaceOrder
mod SearchLemmas
