mod Messages
mod Stops
