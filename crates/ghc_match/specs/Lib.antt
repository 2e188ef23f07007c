pub mod Position
pub mod Value
pub mod Match
pub mod Refusal
pub mod Looked
pub mod Laws
pub mod Facts
pub mod inner
