-- What is written, by the status.
use Rattle.std.proofs.Common.{◌≡◌, ◌⊎◌, inl, inr, ℕ, suc, zero, List, [], take, Option, refl, sym, ◌∙◌, arith, subst}
use Rattle.std.proofs.KnownBytes.{Appends-trans}
use Rattle.std.proofs.lemmas.List.{append-nil}
use Rattle.std.specs.Io.KnownBytes.{Appends}
use Rattle.rp_base.specs.Streams.{WritesLine}
use Rattle.chain_text_defs.specs.Chains.{Answer, stopped, view_line}
use Rattle.chain_words.specs.declared.stops.Fault.{Fault}
use Rattle.chain_words.specs.declared.stops.Stop.{Stop}
use Rattle.chain_words.specs.declared.stops.Stop.TheVariants.{NoMemory, Read, Write, Input}
use Rattle.chain_words.specs.Stops.{line_of, status_of, words_of}
use Rattle.chain_words.specs.Running.{FaultyBy, RefusedBy, ShownInPartBy}

pub at_write : (stop : Stop) → status_of stop ≡ 4 → stop ≡ Write
at_write NoMemory e = absurd (omega arith)
at_write Read e = absurd (omega arith)
at_write Write e = refl
at_write (Input fault) e = absurd (omega arith)

pub at_input : (stop : Stop) → status_of stop ≡ 7 → (fault : Fault) × (stop ≡ Input fault)
at_input NoMemory e = absurd (omega arith)
at_input Read e = absurd (omega arith)
at_input Write e = absurd (omega arith)
at_input (Input fault) e = (fault, refl)

-- where nothing is said, what was written stays
pub says_nothing : (a b c : Option (List ℕ)) (bytes : List ℕ) (f f' : ℕ) → Appends a b bytes → WritesLine [] b c f f' → Appends a c bytes
says_nothing a b c bytes f f' wrote (inl said) = rw (← append-nil bytes) (Appends-trans a b c bytes [] wrote said.0)
says_nothing a b c bytes f f' wrote (inr said) = rw (← append-nil bytes)
    (Appends-trans a b c bytes [] wrote (subst (Appends b c) (take-nothing said.0.0) said.0.2))
  where
    take-nothing : (n : ℕ) → take {A = ℕ} n [] ≡ []
    take-nothing zero = refl
    take-nothing (suc n) = refl

pub part_stays : (answer : List ℕ → Answer) (stop : Stop) (before now old mid new : Option (List ℕ)) (f f' : ℕ) → stop ≡ Write
    → ShownInPartBy answer before now old mid → WritesLine (line_of stop) mid new f f' → ShownInPartBy answer before now old new
part_stays answer stop before now old mid new f f' is p said =
    let silent : WritesLine [] mid new f f' = subst (λ (s : Stop). WritesLine (line_of s) mid new f f') is said in
    record {
      mid = p.mid;
      lines = p.lines;
      place = p.place;
      stands = p.stands;
      wrote = p.wrote;
      part = (p.part.0, p.part.1, says_nothing p.mid mid new (take p.part.0 (view_line p.place.view)) f f' p.part.2 silent);
    }

pub refused_so : (answer : List ℕ → Answer) (stop : Stop) (fault : Fault) (before now old mid new : Option (List ℕ)) (f f' f'' : ℕ)
    → stop ≡ Input fault → FaultyBy answer (words_of fault) before now old mid → (stop ≡ Write) ⊎ (f' ≡ f) → WritesLine (line_of stop) mid new f' f''
    → RefusedBy answer before now old new f f''
refused_so answer stop fault before now old mid new f f' f'' e faulty (inl write) said = absurd (not-write (sym e ∙ write))
  where
    not-write : Input fault ≡ Write → ⊥
    not-write is = absurd cc
refused_so answer stop fault before now old mid new f f' f'' e faulty (inr same) said = record {
  mid = mid;
  words = words_of fault;
  faulty = faulty;
  said = subst (λ (n : ℕ). WritesLine (stopped (words_of fault)).written mid new n f'') same
      (subst (λ (s : Stop). WritesLine (line_of s) mid new f' f'') e said);
}
