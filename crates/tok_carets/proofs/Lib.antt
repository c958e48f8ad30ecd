mod Feeds
mod Lanes
mod Lines
mod Ranks
mod Shows
mod Stretches
