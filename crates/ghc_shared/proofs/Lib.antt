pub mod Moves
pub mod Extended
pub mod Keeping
pub mod Newcomers
pub mod PlacesOnce
pub mod Crosses
pub mod ExclusiveCrosses
pub mod Answering
pub mod AtOnce
pub mod CarriedOn
pub mod AnsweredCalls
pub mod CoreCrosses
pub mod Listing
mod Words
