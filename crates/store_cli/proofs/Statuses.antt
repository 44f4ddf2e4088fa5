-- Why a run stopped, by its status.
use Rattle.std.proofs.Common.{◌≡◌, ◌⊎◌, ℕ, true, false, Option, Some, None, List, [], ◌++◌, Result, Err, refl, sym, ap, subst, ◌∙◌, arith, inl, inr}
use Rattle.std.specs.Prelude.{IsErrOf}
use Rattle.std.proofs.lemmas.List.{append-nil}
use Rattle.std.specs.Io.KnownBytes.{Appends, Consumes, IsAtEnd}
use Rattle.rp_base.specs.Streams.{WritesLine}
use Rattle.store_text_defs.specs.declared.Filter.{Filter}
use Rattle.store_text_defs.specs.Filters.{Filtered, Stopped}
use Rattle.store_text_defs.specs.Laws.{OneOutcome}
use Rattle.store_cli.specs.declared.stops.Stop.{Stop}
use Rattle.store_cli.specs.declared.stops.Stop.TheVariants.{NoMemory, Read, Write, Faulty}
use Rattle.command_line.specs.Commands as rampart
use Rattle.store_cli.specs.Commands.{is_question}
use Rattle.store_cli.specs.Messages.{Ends, fault_line, read_line}
use Rattle.store_cli.specs.Running.{Done, HasFault, HasOutput, MadeInPart, Ran, Refused, RefusedAndSays, SomeMade}

abbrev stopped_by : Stop → Result (Unit {0}) Stop
stopped_by stop = Err stop

-- ---- a status, and what stopped the run

not_quiet : (r : ℕ) → (r ≡ 3) ⊎ (r ≡ 7) → (r ≡ 0) ⊎ (r ≡ 1) ⊎ (r ≡ 4) → ⊥
not_quiet r (inl is) (inl e) = omega (arith, is, e)
not_quiet r (inl is) (inr (inl e)) = omega (arith, is, e)
not_quiet r (inl is) (inr (inr e)) = omega (arith, is, e)
not_quiet r (inr is) (inl e) = omega (arith, is, e)
not_quiet r (inr is) (inr (inl e)) = omega (arith, is, e)
not_quiet r (inr is) (inr (inr e)) = omega (arith, is, e)

module _ (errors errors_now : Option (List ℕ)) (faults faults_now : ℕ) (Nothing : Type 0) where
  pub only : (stop : Stop) (r : ℕ) → Ends errors errors_now faults faults_now Nothing stop r → (r ≡ 0) ⊎ (r ≡ 1) ⊎ (r ≡ 2) ⊎ (r ≡ 3) ⊎ (r ≡ 4) ⊎ (r ≡ 7)
  only NoMemory r e = inr (inl e.0)
  only Read r e = inr (inr (inr (inl e.0)))
  only Write r e = inr (inr (inr (inr (inl e.0))))
  only (Faulty number) r (inl e) = inr (inr (inr (inr (inr e.0))))
  only (Faulty number) r (inr e) = inr (inl e.0)

  -- the status is neither 0 nor 2
  pub no_other : (stop : Stop) (r n : ℕ) → Ends errors errors_now faults faults_now Nothing stop r → r ≡ n → (n ≡ 0) ⊎ (n ≡ 2) → ⊥
  no_other NoMemory r n e is (inl zero) = omega (arith, e.0, is, zero)
  no_other NoMemory r n e is (inr two) = omega (arith, e.0, is, two)
  no_other Read r n e is (inl zero) = omega (arith, e.0, is, zero)
  no_other Read r n e is (inr two) = omega (arith, e.0, is, two)
  no_other Write r n e is (inl zero) = omega (arith, e.0, is, zero)
  no_other Write r n e is (inr two) = omega (arith, e.0, is, two)
  no_other (Faulty number) r n (inl e) is (inl zero) = omega (arith, e.0, is, zero)
  no_other (Faulty number) r n (inl e) is (inr two) = omega (arith, e.0, is, two)
  no_other (Faulty number) r n (inr e) is (inl zero) = omega (arith, e.0, is, zero)
  no_other (Faulty number) r n (inr e) is (inr two) = omega (arith, e.0, is, two)

  pub at_read : (stop : Stop) (r : ℕ) → Ends errors errors_now faults faults_now Nothing stop r → r ≡ 3 → (stop ≡ Read) × WritesLine read_line errors errors_now faults faults_now
  at_read NoMemory r e three = absurd (omega (arith, e.0, three))
  at_read Read r e three = (refl, e.1)
  at_read Write r e three = absurd (omega (arith, e.0, three))
  at_read (Faulty number) r (inl e) three = absurd (omega (arith, e.0, three))
  at_read (Faulty number) r (inr e) three = absurd (omega (arith, e.0, three))

  pub at_write : (stop : Stop) (r : ℕ) → Ends errors errors_now faults faults_now Nothing stop r → r ≡ 4 → stop ≡ Write
  at_write NoMemory r e four = absurd (omega (arith, e.0, four))
  at_write Read r e four = absurd (omega (arith, e.0, four))
  at_write Write r e four = refl
  at_write (Faulty number) r (inl e) four = absurd (omega (arith, e.0, four))
  at_write (Faulty number) r (inr e) four = absurd (omega (arith, e.0, four))

  pub at_fault : (stop : Stop) (r : ℕ) → Ends errors errors_now faults faults_now Nothing stop r → r ≡ 7
      → (number : ℕ) × (stop ≡ Faulty number) × WritesLine (fault_line number) errors errors_now faults faults_now
  at_fault NoMemory r e seven = absurd (omega (arith, e.0, seven))
  at_fault Read r e seven = absurd (omega (arith, e.0, seven))
  at_fault Write r e seven = absurd (omega (arith, e.0, seven))
  at_fault (Faulty number) r (inl e) seven = (number, refl, e.1)
  at_fault (Faulty number) r (inr e) seven = absurd (omega (arith, e.0, seven))

  pub quiet_so : (stop : Stop) (r : ℕ) → Ends errors errors_now faults faults_now Nothing stop r → (r ≡ 0) ⊎ (r ≡ 1) ⊎ (r ≡ 4) → Nothing
  quiet_so NoMemory r e which = e.1
  quiet_so Read r e which = absurd (not_quiet r (inl e.0) which)
  quiet_so Write r e which = e.1
  quiet_so (Faulty number) r (inl e) which = absurd (not_quiet r (inr e.0) which)
  quiet_so (Faulty number) r (inr e) which = e.1

  -- a failed read has status 3, and a failed write 4
  pub no_read : {Q : Type 0} (stop : Stop) (r : ℕ) → Ends errors errors_now faults faults_now Nothing stop r → (stop ≡ Read) ⊎ Q → (r ≡ 3 → ⊥) → Q
  no_read stop r e (inr q) other = q
  no_read Read r e (inl is) other = absurd (other e.0)
  no_read NoMemory r e (inl is) other = absurd cc
  no_read Write r e (inl is) other = absurd cc
  no_read (Faulty number) r e (inl is) other = absurd cc

  pub no_write : {Q : Type 0} (stop : Stop) (r : ℕ) → Ends errors errors_now faults faults_now Nothing stop r → (stop ≡ Write) ⊎ Q → (r ≡ 4 → ⊥) → Q
  no_write stop r e (inr q) other = q
  no_write Write r e (inl is) other = absurd (other e.0)
  no_write NoMemory r e (inl is) other = absurd cc
  no_write Read r e (inl is) other = absurd cc
  no_write (Faulty number) r e (inl is) other = absurd cc

  -- what stops a run where no stream fails and the input has no fault is want of memory
  pub memory_alone : (stop : Stop) (r : ℕ) → Ends errors errors_now faults faults_now Nothing stop r → ¬ (stop ≡ Read) → ¬ (stop ≡ Write)
      → ((number : ℕ) → ¬ (stop ≡ Faulty number)) → (r ≡ 0) ⊎ (r ≡ 1)
  memory_alone NoMemory r e read write fault = inr e.0
  memory_alone Read r e read write fault = absurd (read refl)
  memory_alone Write r e read write fault = absurd (write refl)
  memory_alone (Faulty number) r e read write fault = absurd (fault number refl)

  pub fault_or_memory : (stop : Stop) (r : ℕ) → Ends errors errors_now faults faults_now Nothing stop r → ¬ (stop ≡ Read) → ¬ (stop ≡ Write) → (r ≡ 7) ⊎ (r ≡ 1)
  fault_or_memory NoMemory r e read write = inr e.0
  fault_or_memory Read r e read write = absurd (read refl)
  fault_or_memory Write r e read write = absurd (write refl)
  fault_or_memory (Faulty number) r (inl e) read write = inl e.0
  fault_or_memory (Faulty number) r (inr e) read write = inr e.0

pub stopped_so : (stop is : Stop) → stop ≡ is → IsErrOf {T = Unit {0}} (Err stop) is
stopped_so stop is e = cc

module _ (f : Filter) (before now old new : Option (List ℕ)) where
  -- what a refused input was read up to
  made_of_stopped : (read input output : List ℕ) (number : ℕ) → read ≡ input → Consumes before now read → Appends old new output
      → Stopped f input output number → SomeMade f before now old new
  made_of_stopped read input output number is taken wrote s = record {
    made = s.made;
    are = s.are;
    more = s.rest;
    taken = subst (Consumes before now) (is ∙ s.input_is) taken;
    wrote = subst (Appends old new) s.output_is wrote;
  }

  made_before : (number : ℕ) → Refused f number before now old new → SomeMade f before now old new
  made_before number r = elim r.is [
    | inl each ↦ made_of_stopped r.read (r.read ++ []) r.output number (sym (append-nil r.read)) r.taken r.wrote (each [])
    | inr over ↦ made_of_stopped r.read r.read r.output number refl r.taken r.wrote over.1
  ]

  pub some_made : (errors errors_now : Option (List ℕ)) (faults faults_now : ℕ) (Nothing : Type 0) (stop : Stop) (r : ℕ)
      → Ends errors errors_now faults faults_now Nothing stop r → (r ≡ 1) ⊎ (r ≡ 3) → Ran f before now old new (Err stop) → SomeMade f before now old new
  some_made errors errors_now faults faults_now Nothing NoMemory r e which ran = ran
  some_made errors errors_now faults faults_now Nothing Read r e which ran = ran
  some_made errors errors_now faults faults_now Nothing Write r e (inl one) ran = absurd (omega (arith, one, e.0))
  some_made errors errors_now faults faults_now Nothing Write r e (inr three) ran = absurd (omega (arith, three, e.0))
  some_made errors errors_now faults faults_now Nothing (Faulty number) r e which ran = made_before number ran

  pub part_made : (stop : Stop) → stop ≡ Write → Ran f before now old new (Err stop) → MadeInPart f before now old new
  part_made stop is ran = subst (λ (s : Stop). Ran f before now old new (stopped_by s)) is ran

  pub refused_so : (stop : Stop) (number : ℕ) → stop ≡ Faulty number → Ran f before now old new (Err stop) → Refused f number before now old new
  refused_so stop number is ran = subst (λ (s : Stop). Ran f before now old new (stopped_by s)) is ran

  pub refused_and_says : (errors errors_now : Option (List ℕ)) (faults faults_now : ℕ) (stop : Stop) (number : ℕ) → stop ≡ Faulty number
      → Ran f before now old new (Err stop) → WritesLine (fault_line number) errors errors_now faults faults_now
      → RefusedAndSays f before now old new errors errors_now faults faults_now
  refused_and_says errors errors_now faults faults_now stop number is ran says = record {
    number = number;
    refused = refused_so stop number is ran;
    said = says;
  }

  -- ---- inputs that tell what they hold

  module _ (law : OneOutcome) where
    whole : (read reported : List ℕ) → before ≡ Some reported → Consumes before now read → IsAtEnd now → reported ≡ read
    whole read reported is taken over = of now (subst (λ (b : Option (List ℕ)). Consumes b now read) is taken) over
      where
        of : (n : Option (List ℕ)) → Consumes (Some reported) n read → IsAtEnd n → reported ≡ read
        of None taken over = absurd taken
        of (Some left) taken over = taken ∙ ap (λ (l : List ℕ). read ++ l) over ∙ append-nil read

    front : (read reported : List ℕ) → before ≡ Some reported → Consumes before now read → (left : List ℕ) × (reported ≡ read ++ left)
    front read reported is taken = of now (subst (λ (b : Option (List ℕ)). Consumes b now read) is taken)
      where
        of : (n : Option (List ℕ)) → Consumes (Some reported) n read → (left : List ℕ) × (reported ≡ read ++ left)
        of None taken = absurd taken
        of (Some left) taken = (left, taken)

    -- an input that has an output has no fault
    no_fault : (reported output : List ℕ) (number : ℕ) → before ≡ Some reported → Filtered f reported output → Refused f number before now old new → ⊥
    no_fault reported output number is has r = elim r.is [
      | inl each ↦
          let left = front r.read reported is r.taken in
          law.apart f reported output r.output number has
          (subst (λ (t : List ℕ). Stopped f t r.output number) (sym left.1) (each left.0))
      | inr over ↦ law.apart f reported output r.output number has
          (subst (λ (t : List ℕ). Stopped f t r.output number) (sym (whole r.read reported is r.taken over.0)) over.1)
    ]

    no_output : (reported output : List ℕ) (number : ℕ) → before ≡ Some reported → Stopped f reported output number → Done f before now old new → ⊥
    no_output reported output number is has d =
        law.apart f reported d.output output number
        (subst (λ (t : List ℕ). Filtered f t d.output) (sym (whole d.input reported is d.taken d.over)) d.is) has

    pub faultless : (b : Option (List ℕ)) → before ≡ b → HasOutput f b → (number : ℕ) → Refused f number before now old new → ⊥
    faultless None is has number r = absurd has
    faultless (Some reported) is has number r = no_fault reported has.0 number is has.1 r

    pub faulty : (b : Option (List ℕ)) → before ≡ b → HasFault f b → Done f before now old new → ⊥
    faulty None is has d = absurd has
    faulty (Some reported) is has d = no_output reported has.0 has.1 is has.2 d

-- ---- words

pub same_filter : (a b : Filter) → (let o : Option Filter = Some a in o) ≡ Some b → a ≡ b
same_filter a b e = cc

-- a command that is `ask` has a payload
pub payload_of : (c : rampart.Command) → is_question c ≡ true → (payload : List ℕ) × (c ≡ rampart.Ask payload)
payload_of (rampart.Ask payload) e = (payload, refl)
payload_of (rampart.Replay short) e = absurd cc
payload_of rampart.Chain e = absurd cc
payload_of (rampart.Gen number) e = absurd cc
payload_of (rampart.Keygen order) e = absurd cc
payload_of (rampart.Node file) e = absurd cc
payload_of (rampart.Resume file) e = absurd cc
payload_of (rampart.Guard file) e = absurd cc
payload_of (rampart.Serve file) e = absurd cc
payload_of (rampart.Audit listed) e = absurd cc

pub is_asked : (c : rampart.Command) (payload : List ℕ) → (let o : Option rampart.Command = Some c in o) ≡ Some (rampart.Ask payload)
    → is_question c ≡ true
is_asked c payload e = ap is_question (same c (rampart.Ask payload) e)
  where
    same : (a b : rampart.Command) → (let o : Option rampart.Command = Some a in o) ≡ Some b → a ≡ b
    same a b e = cc

pub no_command : {P : Type 0} (c : rampart.Command) → (let o : Option rampart.Command = None in o) ≡ Some c → P
no_command c e = absurd cc

pub never_true : {P : Type 0} → false ≡ true → P
never_true e = absurd cc

pub nothing : (f : Filter) → (let o : Option Filter = None in o) ≡ Some f → ⊥
nothing f e = absurd cc
