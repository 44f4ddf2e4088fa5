-- What a server's service has answered, in the words of the crate below, passed on.
pub use Rattle.store_service.specs.Served.{HasServed}
