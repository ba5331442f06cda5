pub mod Mod7
pub mod Inverses
