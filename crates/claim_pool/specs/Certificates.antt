-- What a certificate says, and who says it.
use Rattle.std.specs.Prelude.{ℕ, List}
use Rattle.message_defs.specs.Statements as plain
use Rattle.stmt_codec.specs.Views.{stmt}
use Rattle.claim_pool.specs.declared.certificate.Certificate.{Certificate}

abbrev pub content_of : {K : Type 0} → Certificate K → plain.Statement
content_of c = stmt c.content

abbrev pub signers_of : {K : Type 0} → Certificate K → List ℕ
signers_of c = c.signers
