-- What the calls of a desk's memory mean: definitions that compute, without any code.
-- Read Chain and Pieces first, then Heap, Slot, Module, Messages, Post and Desk; *step* in Commands is one command.
-- In all files `-` of naturals stops at 0 (3 - 5 is 0), and a list of ℕ is bytes where nothing else is said.
-- `_ ← step` in a `do`, or a step alone, counts for its refusal alone. What lies in Inner is for proofs alone.
pub mod Chain
pub mod Pieces
pub mod Bytes
pub mod Forms
pub mod Files
pub mod Memory
pub mod Heap
pub mod HeapImage
pub mod HeapParts
pub mod Blocks
pub mod Module
pub mod Slot
pub mod SlotImage
pub mod Pathnames
pub mod OtherBodies
pub mod Messages
pub mod MessageImage
pub mod AnyMessage
pub mod Post
pub mod Records
pub mod Sender
pub mod Receiver
pub mod Letters
pub mod Desk
pub mod Places
pub mod OutgoingEvents
pub mod IncomingEvents
pub mod RawTasks
pub mod Transfer
pub mod Questions
pub mod RawCommands
pub mod Commands
pub mod Order
pub mod Runs
pub mod Spans
pub mod Laws
pub mod Grammar
pub mod Range
pub mod Named
pub mod Line
pub mod Text
pub mod Script
pub mod Inner
