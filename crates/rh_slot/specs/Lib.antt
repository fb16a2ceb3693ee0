pub mod Flex
pub mod Inner
pub mod Row
pub mod SlotArea
pub mod SlotCalls
pub mod SlotChecks
