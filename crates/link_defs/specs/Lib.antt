pub mod Hmac
pub mod Datagrams
