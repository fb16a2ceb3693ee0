pub mod Inner
pub mod ModuleArea
pub mod ModuleCalls
pub mod Writes
