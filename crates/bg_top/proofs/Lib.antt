mod Ends
mod Right
mod Settled
