pub mod AskedOf
