pub mod Accepting
pub mod Advance
pub mod Answering
pub mod Clearing
pub mod CourseSteps
pub mod Fresh
pub mod HeldImages
pub mod Holding
pub mod Keeping
pub mod Machines
pub mod Nows
pub mod Preparing
mod ReadAllSteps
pub mod ReadSteps
pub mod SlotSteps
pub mod WaitPlaces
pub mod WantedSteps
