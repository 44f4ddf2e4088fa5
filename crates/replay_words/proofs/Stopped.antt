-- Why a run stopped, by its status.
use Rattle.std.proofs.Common.{◌≡◌, ℕ, zero, suc, List, [], take, Option, Err, refl, arith, inl, inr, subst}
use Rattle.std.specs.Prelude.{IsErrOf}
use Rattle.std.proofs.KnownBytes.{Appends-trans}
use Rattle.std.proofs.lemmas.List.{append-nil}
use Rattle.std.specs.Io.KnownBytes.{Appends}
use Rattle.replay_words.specs.declared.stops.Stop.{Stop}
use Rattle.replay_words.specs.declared.stops.Stop.TheVariants.{NoMemory, Words, Read, Write}
use Rattle.replay_words.specs.Statuses.{status_of, line_of}
use Rattle.rp_base.specs.Streams.{AppendsPrefix, WritesLine}

pub at_write : (stop : Stop) → status_of stop ≡ 4 → stop ≡ Write
at_write NoMemory e = absurd (omega arith)
at_write Words e = absurd (omega arith)
at_write Read e = absurd (omega arith)
at_write Write e = refl

pub stopped_so : (stop is : Stop) → stop ≡ is → IsErrOf {T = Unit {0}} (Err stop) is
stopped_so stop is e = cc

-- where nothing is said, what was written stays
pub says_nothing : (a b c : Option (List ℕ)) (bytes : List ℕ) (before now : ℕ) → Appends a b bytes → WritesLine [] b c before now
    → Appends a c bytes
says_nothing a b c bytes before now wrote (inl said) = rw (← append-nil bytes) (Appends-trans a b c bytes [] wrote said.0)
says_nothing a b c bytes before now wrote (inr said) = rw (← append-nil bytes)
    (Appends-trans a b c bytes [] wrote (subst (Appends b c) (take-nothing said.0.0) said.0.2))
  where
    take-nothing : (n : ℕ) → take {A = ℕ} n [] ≡ []
    take-nothing zero = refl
    take-nothing (suc n) = refl

-- a prefix that was written stays, since nothing is said of a failed write
pub prefix_stays : (stop : Stop) (old mid new : Option (List ℕ)) (bytes : List ℕ) (f f' : ℕ) → stop ≡ Write → AppendsPrefix old mid bytes
    → WritesLine (line_of stop) mid new f f' → AppendsPrefix old new bytes
prefix_stays stop old mid new bytes f f' is part said =
    let silent : WritesLine [] mid new f f' = subst (λ (s : Stop). WritesLine (line_of s) mid new f f') is said in
    (part.0, part.1, says_nothing old mid new _ f f' part.2 silent)
