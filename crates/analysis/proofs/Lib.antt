pub mod Answered
pub mod Degrees
pub mod Given
pub mod ReadLists
pub mod Room
pub mod Texts
