pub mod lemmas
mod Counting
mod Accepted
mod Keeping
mod KeptWritten
mod Together
mod Histories
mod Readings
pub mod OneList
mod Replayed
mod Unless
mod Resumed
mod Starts
mod Sourced
mod Preparing
pub mod Spells
pub mod Pieces
mod StandingSource
mod ChangesPlaced
mod ChangesRead
mod BlockRead
mod Elsewhere
mod Renewed
mod Written
mod Versions
mod Condensed
mod Decoding
mod HeldSources
mod OneBeginning
mod ListBegins
mod Below
mod Sourcing
mod ImageBegun
mod ReadTwice
