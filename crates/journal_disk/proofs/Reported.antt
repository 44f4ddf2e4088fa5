-- Facts about bytes that a disk may not tell.
use Rattle.std.proofs.Common.{Option, Some, None}
use Rattle.std.specs.Option.{IfSome}

-- one fact from two, and from three
pub reported : {A : Type 0} {P Q : A → Type 0} (o : Option A) → ((x : A) → P x → Q x) → IfSome o P → IfSome o Q
reported None f p = tt
reported (Some x) f p = f x p

pub reported_both : {A : Type 0} {P Q R : A → Type 0} (o : Option A) → ((x : A) → P x → Q x → R x) → IfSome o P → IfSome o Q → IfSome o R
reported_both None f p q = tt
reported_both (Some x) f p q = f x p q

pub reported_all : {A : Type 0} {P Q R S : A → Type 0} (o : Option A) → ((x : A) → P x → Q x → R x → S x) → IfSome o P → IfSome o Q → IfSome o R
    → IfSome o S
reported_all None f p q r = tt
reported_all (Some x) f p q r = f x p q r
