mod ReachedLevel
mod FirstPlace
