pub mod MessageWords
pub mod RecordPlaces
pub mod ReceiverCalls
pub mod ReceiverWords
pub mod SenderCalls
pub mod SenderWords
pub mod WithStatus
