pub mod TokenLines
