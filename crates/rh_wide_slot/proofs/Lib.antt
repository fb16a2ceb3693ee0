pub mod CallLaws
pub mod Common
pub mod CountLaws
pub mod EditLaws
pub mod EntryLaws
pub mod Examples
pub mod LeaveLaws
pub mod ShiftLaws
