pub mod Histories
mod Keeping
mod Lists
mod Views
