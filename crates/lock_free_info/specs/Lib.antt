pub mod Classes
pub mod PlanTable
pub mod Laws
