-- Schemes and secrets of the code, as plain data.
use Rattle.signature_defs.specs.Schemes as schemes
use Rattle.signature_defs.specs.Secrets as secrets
use Rattle.sig_scheme.specs.declared.any_scheme.AnyScheme.{AnyScheme}
use Rattle.sig_scheme.specs.declared.any_scheme.AnyScheme.TheVariants as kinds
use Rattle.sig_scheme.specs.declared.secret.Secret.{Secret}
use Rattle.sig_scheme.specs.declared.secret.Secret.TheVariants.{Plain, Lms, Hss}

abbrev pub scheme : AnyScheme → schemes.Scheme
scheme kinds.Plain = schemes.Plain
scheme kinds.Lms = schemes.Lms
scheme kinds.Hss = schemes.Hss

abbrev pub secret : Secret → secrets.Secret
secret (Plain key total) = secrets.Plain key total
secret (Lms height ots id seed) = secrets.Lms height ots id seed
secret (Hss levels height ots id seed) = secrets.Hss levels height ots id seed
