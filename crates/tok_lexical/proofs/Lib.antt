pub mod Appended
pub mod BareReturns
mod Codes
pub mod Decimals
pub mod Digits
pub mod Docs
pub mod EscapedChars
pub mod First
pub mod Fits
pub mod FloatTails
pub mod Fronts
pub mod Heads
pub mod Identifiers
pub mod Lanes
mod Leads
pub mod Longest
mod NestedComments
pub mod QuotedFaults
pub mod RawQuotes
mod RawStrings
pub mod Runs
mod Scans
pub mod Seconds
pub mod Slashes
pub mod Sources
pub mod Starts
mod StringPrefixes
mod Tables
pub mod Texts
pub mod Units
mod WhiteSpace
