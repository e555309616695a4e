pub mod FakeLemmas
