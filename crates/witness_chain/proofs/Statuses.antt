-- What is written, where more was read before or a stop is told behind it.
use Rattle.std.proofs.Common.{◌≡◌, ◌⊎◌, inl, inr, ℕ, ◌+◌, List, [], ◌++◌, take, Option, Result, Ok, Err, refl, sym, subst, ◌∙◌, arith}
use Rattle.std.specs.Prelude.{IsSome}
use Rattle.std.specs.Io.KnownBytes.{Keeps}
use Rattle.std.proofs.KnownBytes.{Appends-kept, Appends-nil}
use Rattle.rp_base.specs.Streams.{WritesLine}
use Rattle.kit_defs.specs.Kits.{Kit}
use Rattle.kit_defs.specs.KitReading.{KitFault}
use Rattle.input_defs.specs.Fronts.{Front, front_of}
use Rattle.chain_text_defs.specs.Chains.{Answer, kit_words, stopped}
use Rattle.chain_words.specs.declared.stops.Fault.{Fault}
use Rattle.chain_words.specs.declared.stops.Stop.{Stop}
use Rattle.chain_words.specs.declared.stops.Stop.TheVariants.{Input, NoMemory, Read, Write}
use Rattle.chain_words.specs.Stops.{input_words, line_of, words_of}
use Rattle.chain_words.specs.Places.{Leads}
use Rattle.chain_words.specs.Running.{FaultyBy, SomeShownBy}
use Rattle.chain_words.proofs.Kits.{answer_by}
use Rattle.chain_words.proofs.Runs.{in_part_then, settles_then, stands_then}
use Rattle.chain_words.proofs.Statuses.{part_stays, says_nothing}
use Rattle.proof_defs.specs.Starts.{started_chain_of, started_from}
use Rattle.witness_chain.specs.Starting.{InPartBy, LinesBy, starts_at}

-- the answer goes by the kit at the front
pub opened : (bytes : List ℕ) → started_chain_of bytes ≡ answer_by started_from (front_of bytes)
unfolding started_chain_of
opened bytes = of (front_of bytes)
  where
    of : (r : Result Front KitFault) → (elim r [ Err fault ↦ stopped (kit_words fault) | Ok f ↦ started_from f ]) ≡ answer_by started_from r
    of (Err fault) = refl
    of (Ok f) = refl

-- behind a kit, where the number of the next line is this one
pub renumbered : (before now : Option (List ℕ)) (kit : Kit) (go n : ℕ) (left : List ℕ) → n ≡ go + 1
    → Leads started_chain_of before now (λ rest. started_from (record { kit = kit; line = go + 1; rest = left ++ rest }))
    → Leads started_chain_of before now (starts_at kit n left)
renumbered before now kit go n left is leads =
    subst (λ (m : ℕ). Leads started_chain_of before now (starts_at kit m left)) (sym is) leads

-- a stop of no line is told behind it
pub in_part_stays : (answer : List ℕ → Answer) (stop : Stop) (before now old mid new : Option (List ℕ)) (f f' : ℕ) → stop ≡ Write
    → InPartBy answer before now old mid → WritesLine (line_of stop) mid new f f' → InPartBy answer before now old new
in_part_stays answer stop before now old mid new f f' is (inl p) said = inl (part_stays answer stop before now old mid new f f' is p said)
in_part_stays answer stop before now old mid new f f' is (inr p) said =
    let silent : WritesLine [] mid new f f' = subst (λ (s : Stop). WritesLine (line_of s) mid new f f') is said in
    inr (record {
      all = p.all;
      is = p.is;
      wrote = (p.wrote.0, p.wrote.1, says_nothing old mid new (take p.wrote.0 p.all.written) f f' p.wrote.2 silent);
    })

-- nothing is told behind whole lines
pub lines_stay : (answer : List ℕ → Answer) (stop : Stop) (status : ℕ) (before now old mid new : Option (List ℕ)) → (stop ≡ Write → status ≡ 4)
    → status ≡ 1 → (stop ≡ Write) ⊎ IsSome (input_words stop) ⊎ SomeShownBy answer before now old mid
    → ((fault : Fault) → stop ≡ Input fault → FaultyBy answer (words_of fault) before now old mid) → Keeps mid new
    → LinesBy answer before now old new
lines_stay answer stop status before now old mid new four one (inl write) faulty kept =
    let is = four write in absurd (omega (arith, is, one))
lines_stay answer stop status before now old mid new four one (inr (inr some)) faulty kept = inl (record {
  lines = some.lines;
  are = some.are;
  wrote = Appends-kept old mid new some.lines some.wrote kept;
})
lines_stay answer (Input fault) status before now old mid new four one (inr (inl is)) faulty kept =
    let f = faulty fault refl in
    inr (words_of fault, record { lines = f.lines; is = f.is; wrote = Appends-kept old mid new f.lines f.wrote kept })
lines_stay answer NoMemory status before now old mid new four one (inr (inl is)) faulty kept = absurd cc
lines_stay answer Read status before now old mid new four one (inr (inl is)) faulty kept = absurd cc
lines_stay answer Write status before now old mid new four one (inr (inl is)) faulty kept = absurd cc

-- ---- where more was read before, and nothing was written

module _ (answer then : List ℕ → Answer) (before mid now : Option (List ℕ)) (leads : Leads answer before mid then) (old new : Option (List ℕ)) where
  pub some_then : SomeShownBy then mid now old new → SomeShownBy answer before now old new
  some_then s = record {
    lines = s.lines;
    are = elim s.are [ inl none ↦ inl none | inr shown ↦ inr (shown.0, stands_then answer then before mid now [] leads s.lines shown.0 shown.1) ];
    wrote = s.wrote;
  }

  pub some_before : (stop reported : Stop) → stop ≡ reported → (reported ≡ Write) ⊎ IsSome (input_words reported) ⊎ SomeShownBy then mid now old new
      → (stop ≡ Write) ⊎ IsSome (input_words stop) ⊎ SomeShownBy answer before now old new
  some_before stop reported is (inl write) = inl (is ∙ write)
  some_before stop reported is (inr (inl fault)) = inr (inl (subst (λ (s : Stop). IsSome (input_words s)) (sym is) fault))
  some_before stop reported is (inr (inr some)) = inr (inr (some_then some))

  pub in_part_before : InPartBy then mid now old new → InPartBy answer before now old new
  in_part_before (inl p) = inl (in_part_then answer then before mid now [] leads old old (Appends-nil old) new p)
  in_part_before (inr p) = inr (record { all = p.all; is = settles_then answer then before mid now [] leads p.all p.is; wrote = p.wrote })
