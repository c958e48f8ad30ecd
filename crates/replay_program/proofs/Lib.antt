mod CommandLines
mod Dashes
mod Failing
mod Fronts
mod Lines
mod Looks
mod Once
mod WordCuts
