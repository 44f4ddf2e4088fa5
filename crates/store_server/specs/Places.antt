-- What a server is to the definitions, in the words of the crates below, passed on.
pub use Rattle.signature_defs.specs.Schemes.{Scheme}
pub use Rattle.signature_defs.specs.Secrets.{Secret, scheme_of}
pub use Rattle.sig_scheme.specs.declared.any_signer.AnySigner.{AnySigner}
pub use Rattle.sig_scheme.specs.Signers.{used}
pub use Rattle.sig_scheme.specs.Views.{scheme, secret}
pub use Rattle.group_defs.specs.Accounts.{Account}
pub use Rattle.accounts.specs.Views.{account}
pub use Rattle.store_defs.specs.Holding.{payloads_of}
pub use Rattle.store_defs.specs.Serving.{Place, Server, after_note, server_of}
pub use Rattle.store_defs.specs.Services.{keys_text, noted_text, place_of}
unfoldable pub use Rattle.store_defs.specs.Services.{line_worded}
pub use Rattle.store_defs.specs.Words.{most_state_line_bytes}
pub use Rattle.store_replies.specs.Replying.{me_in}
