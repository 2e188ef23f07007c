pub mod Unify
pub mod Solutions
pub mod Laws
pub mod inner
