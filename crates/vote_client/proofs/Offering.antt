-- A reply that does not count changes nothing.
use Rattle.std.proofs.Common.{◌≡◌, refl}
use Rattle.store_defs.specs.declared.Offer.{Offer}
use Rattle.store_defs.specs.declared.Offer.TheVariants.{OtherRequest, Stranger, Unsigned, Known, Counted}
use Rattle.store_defs.specs.Records.{Reply}
use Rattle.store_defs.specs.Votes.{Vote, with_reply}

pub stays-unless : (vote : Vote) (r : Reply) (o : Offer) → (o ≡ Counted → ⊥) → with_reply vote r o ≡ vote
stays-unless vote r OtherRequest other = refl
stays-unless vote r Stranger other = refl
stays-unless vote r Unsigned other = refl
stays-unless vote r Known other = refl
stays-unless vote r Counted other = absurd (other refl)
