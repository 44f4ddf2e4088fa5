-- A hosted process, its core, its signer and its turn: in the words of the crates below, passed on.
unfoldable pub use Rattle.hosted_core.specs.Cores.{IsCore}
pub use Rattle.hosted_core.specs.Cores.{Core, IsOutcome, fault, event, signer_of, turn_of}
pub use Rattle.hosted_core.specs.Hosts.{core_of, IsReal}
pub use Rattle.sig_scheme.specs.declared.any_signer.AnySigner.{AnySigner}
pub use Rattle.sig_scheme.specs.Signers.{used, total, signature}
pub use Rattle.signature_defs.specs.Schemes.{is_valid}
pub use Rattle.hosted_core.specs.Turns.{TakesTurn, hosted_in}
pub use Rattle.hosted_core.specs.declared.hosted.Hosted.{Hosted}
pub use Rattle.hosted_core.specs.declared.taking.Taken.{Taken}
pub use Rattle.hosted_core.specs.declared.taking.Taken.TheVariants.{Turn}
