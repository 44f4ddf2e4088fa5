pub mod ByteLoop
pub mod Named
pub mod HexRead
