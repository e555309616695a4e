pub mod InspectText
pub mod Marks
pub mod PlanText
