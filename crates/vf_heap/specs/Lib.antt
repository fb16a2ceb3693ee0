pub mod HeapStatus
pub mod LentHeapCalls
