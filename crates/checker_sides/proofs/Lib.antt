pub mod Sided
pub mod SidesMet
pub mod SoundSides
