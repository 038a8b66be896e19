pub mod Below
pub mod KindLaws
pub mod Laws
pub mod Loops
pub mod Moves
pub mod Room
pub mod Top
