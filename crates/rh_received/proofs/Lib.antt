mod Places
mod Receipts
mod Sessions
mod ReceivedRows
