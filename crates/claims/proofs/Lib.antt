mod DemandsHold
mod Calls
mod Tested
mod AsFile
mod AsWrittenOut
mod Compared
