pub mod Computed
pub mod Instances
