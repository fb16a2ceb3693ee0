pub mod LentSlotCalls
pub mod SlotStatus
pub mod SlotPlaces
pub mod WideStatus
