-- The first line after a kit, and the answer from there on.
use Rattle.std.proofs.Common.{◌≡◌, inl, inr, ℕ, ◌+◌, ◌<◌, List, [], ◌∷◌, ◌++◌, length, length-append, arith, Option, None, Some, Result, Ok, Err, refl, sym, ap, subst, ◌∙◌}
use Rattle.std.specs.Prelude.{IfErr, IfOk, IfSome, IsErrOf, IsSome, ◌⊎◌}
use Rattle.std.specs.Io.KnownBytes.{Appends}
use Rattle.std.proofs.KnownBytes.{Appends-nil}
use Rattle.std.proofs.lemmas.List.{append-nil, take-append-le}
use Rattle.byte_defs.specs.Reads.{Makes}
use Rattle.rp_base.specs.Streams.{AppendsPrefix}
use Rattle.text_defs.specs.Words.{parts_of}
use Rattle.kit_defs.specs.Kits.{Kit}
use Rattle.input_defs.proofs.FirstLines.{line_stays, short_is_first}
use Rattle.group_defs.specs.Views.{View}
use Rattle.group_defs.specs.Process.{Setting}
use Rattle.line_input.specs.Taking.{Answered, Taken}
use Rattle.line_input.specs.declared.lines.Next.{Next}
use Rattle.line_input.specs.declared.lines.Next.TheVariants as nexts
use Rattle.line_laws.proofs.Parts.{parts_by_line, parts_some}
use Rattle.line_laws.proofs.Read.{input_ends, line_leads, no_line_settles}
use Rattle.chain_text_defs.specs.Chains.{Answer, behind, chain_at, done, most_proof_line, setting_of, stopped, view_line}
use Rattle.chain_words.specs.declared.stops.Fault.{Fault}
use Rattle.chain_words.specs.declared.stops.Stop.{Stop}
use Rattle.chain_words.specs.declared.stops.Stop.TheVariants as stops
use Rattle.chain_words.specs.Stops.{input_words, words_of}
use Rattle.chain_words.specs.Lines.{line_shows, no_line, taken}
use Rattle.chain_words.specs.Places.{Ends, Leads, Settles, answer_at, place}
use Rattle.chain_words.specs.Running.{AnsweredBy, FaultyBy, SomeShownBy, ReachesBy}
use Rattle.chain_words.proofs.Runs.{behind_both, none_shown}
use Rattle.chain_words.proofs.Steps.{goes_on, nothing_left, part_answered, some_left, too_long}
use Rattle.chain_words.proofs.Taken.{none_more, some_more, words_more}
use Rattle.line_input.proofs.Places.{ends_settle}
use Rattle.proof_defs.specs.Starts.{start_in, started_at, reported_from}
use Rattle.witness_chain.specs.Starting.{BegunBy, InPartBy, PartShown, first_lines, start_next, starts_at}
use Rattle.witness_chain.proofs.Short.{long-starts-none}

-- ---- a line, and further parts

module _ (s : Setting) (n : ℕ) where
  abbrev by-start : (line next : List ℕ) (more : List (List ℕ)) (o : Option View) → Answer
  by-start line next more None = reported_from s n s.genesis (line ∷ next ∷ more)
  by-start line next more (Some v) = reported_from s (n + 1) v (next ∷ more)

  line-starts : (line next : List ℕ) (more : List (List ℕ)) → started_at s n (line ∷ next ∷ more) ≡ by-start line next more (start_in s line)
  unfolding started_at
  line-starts line next more = of (start_in s line)
    where
      of : (o : Option View)
          → (elim o [
            | None ↦ reported_from s n s.genesis (line ∷ next ∷ more)
            | Some v ↦ reported_from s (n + 1) v (next ∷ more)
          ]) ≡ by-start line next more o
      of None = refl
      of (Some v) = refl

  -- bytes come after the line
  started : (line rest : List ℕ) (v : View) → start_in s line ≡ Some v
      → started_at s n (line ∷ parts_of rest) ≡ reported_from s (n + 1) v (parts_of rest)
  started line rest v e =
      let some = parts_some rest in
      ap (λ (ps : List (List ℕ)). started_at s n (line ∷ ps)) some.2 ∙ line-starts line some.0 some.1
      ∙ ap (by-start line some.0 some.1) e ∙ ap (reported_from s (n + 1) v) (sym some.2)

  anew : (line rest : List ℕ) → start_in s line ≡ None → started_at s n (line ∷ parts_of rest) ≡ reported_from s n s.genesis (line ∷ parts_of rest)
  anew line rest e =
      let some = parts_some rest in
      ap (λ (ps : List (List ℕ)). started_at s n (line ∷ ps)) some.2 ∙ line-starts line some.0 some.1
      ∙ ap (by-start line some.0 some.1) e ∙ ap (λ (ps : List (List ℕ)). reported_from s n s.genesis (line ∷ ps)) (sym some.2)

  -- and it is a proof, or is none
  anew-goes-on : (line rest : List ℕ) → start_in s line ≡ None
      → started_at s n (line ∷ parts_of rest)
      ≡ behind (view_line s.genesis) (goes_on s n (parts_of rest) (line_shows s n s.genesis line))
  anew-goes-on line rest e =
      let some = parts_some rest in
      anew line rest e
      ∙ ap (behind (view_line s.genesis)) (ap (λ (ps : List (List ℕ)). chain_at s n s.genesis (line ∷ ps)) some.2
      ∙ part_answered s n s.genesis line some.0 some.1
      ∙ ap (λ (ps : List (List ℕ)). goes_on s n ps (line_shows s n s.genesis line)) (sym some.2))

  too-long : (line next : List ℕ) (more : List (List ℕ)) → most_proof_line < length line
      → started_at s n (line ∷ next ∷ more) ≡ behind (view_line s.genesis) (stopped (no_line n))
  too-long line next more long =
      line-starts line next more ∙ ap (by-start line next more) (long-starts-none s line long)
      ∙ ap (behind (view_line s.genesis)) (part_answered s n s.genesis line next more
      ∙ ap (goes_on s n (next ∷ more)) (too_long s n s.genesis line long))

  some-left : (rest : List ℕ) → 0 < length rest → started_at s n (rest ∷ []) ≡ behind (view_line s.genesis) (stopped (no_line n))
  unfolding started_at
  some-left rest some = ap (behind (view_line s.genesis)) (some_left s n s.genesis rest some)

  none-left : started_at s n ([] ∷ []) ≡ behind (view_line s.genesis) done
  unfolding started_at
  none-left = ap (behind (view_line s.genesis)) (nothing_left s n s.genesis)

-- ---- what comes next

module _ (kit : Kit) (n : ℕ) (ahead : List ℕ) (before now : Option (List ℕ)) (l : Taken) where
  abbrev s : Setting
  s = setting_of kit

  abbrev F : List (List ℕ) → Answer
  F parts = started_at (setting_of kit) n parts

  abbrev G : List ℕ → Answer
  G more = starts_at kit n ahead more

  abbrev first : List ℕ
  first = view_line (setting_of kit).genesis

  abbrev Reads : Next → Type 0
  Reads next = Answered most_proof_line before now ahead l next

  -- no line comes
  broken : Reads nexts.Broken → Settles G before now (behind first (stopped (no_line n)))
  broken a = no_line_settles F most_proof_line ahead before now l (behind first (stopped (no_line n)))
      (λ line next more long. too-long s n line next more long) (λ rest some. some-left s n rest some) a

  -- the input has ended
  ended : Reads nexts.End → Ends G before now (behind first done)
  ended a =
      let e = input_ends F most_proof_line ahead before now l a in
      record { read = e.read; taken = e.taken; ended = e.ended; is = e.is ∙ none-left s n }

  module _ (line : List ℕ) (this : line ≡ l.line) where
    leads : (goes_on : List ℕ → Answer) → Reads nexts.Line → ((rest : List ℕ) → F (line ∷ parts_of (l.ahead ++ rest)) ≡ goes_on rest)
        → Leads G before now goes_on
    leads goes_on a is =
        let more = line_leads F most_proof_line ahead before now l a in
        record {
          read = more.read;
          taken = more.taken;
          is = λ rest. more.is rest ∙ ap (λ (t : List ℕ). F (t ∷ parts_of (l.ahead ++ rest))) (sym this) ∙ is rest;
        }

    -- the line of a view
    pub view_starts : (next : Next) → Reads next → (v : View) → Some v ≡ start_next s next line
        → ReachesBy G before now (view_line v) (place kit (n + 1) v l.ahead)
    view_starts nexts.Line a v e =
        leads (λ rest. behind (view_line v) (answer_at (place kit (n + 1) v l.ahead) rest)) a (λ rest. started s n line (l.ahead ++ rest) v (sym e))
    view_starts nexts.Broken a v e = absurd cc
    view_starts nexts.End a v e = absurd cc

    pub started_begun : (next : Next) → Reads next → (v w : View) → Some v ≡ start_next s next line → w ≡ v → (old new : Option (List ℕ))
        → Appends old new (view_line v) → BegunBy G before now old new (place kit (n + 1) w l.ahead)
    started_begun next a v w e same old new wrote = record {
      lines = view_line v;
      stands = subst (λ (u : View). ReachesBy G before now (view_line v) (place kit (n + 1) u l.ahead)) (sym same) (view_starts next a v e);
      wrote = wrote;
    }

    pub started_in_part : (next : Next) → Reads next → (v : View) → Some v ≡ start_next s next line → (old new : Option (List ℕ))
        → AppendsPrefix old new (view_line v) → InPartBy G before now old new
    started_in_part next a v e old new part = inl (record {
      mid = old;
      lines = [];
      place = place kit (n + 1) v l.ahead;
      stands = view_starts next a v e;
      wrote = Appends-nil old;
      part = part;
    })

    -- any other line, after the first view
    module _ (next : Next) (a : Reads next) (none : None ≡ start_next s next line) where
      shows-line : Reads nexts.Line → None ≡ start_in s line → (w : View) → line_shows s n s.genesis line ≡ Ok w
          → ReachesBy G before now (first ++ view_line w) (place kit (n + 1) w l.ahead)
      shows-line b other w e = leads (λ rest. behind (first ++ view_line w) (answer_at (place kit (n + 1) w l.ahead) rest)) b
          (λ rest. anew-goes-on s n line (l.ahead ++ rest) (sym other)
          ∙ ap (λ r. behind first (goes_on s n (parts_of (l.ahead ++ rest)) r)) e
          ∙ behind_both first (view_line w) (answer_at (place kit (n + 1) w l.ahead) rest))

      pub first_shows : (w : View) → taken s n s.genesis next line ≡ Ok (Some w)
          → ReachesBy G before now (first ++ view_line w) (place kit (n + 1) w l.ahead)
      first_shows = of next a none
        where
          of : (next : Next) → Reads next → None ≡ start_next s next line → (w : View) → taken s n s.genesis next line ≡ Ok (Some w)
              → ReachesBy G before now (first ++ view_line w) (place kit (n + 1) w l.ahead)
          of nexts.Line b other w e = shows-line b other w (some_more (line_shows s n s.genesis line) w e)
          of nexts.Broken b other w e = absurd cc
          of nexts.End b other w e = absurd cc

      pub first_ends : taken s n s.genesis next line ≡ Ok None → Ends G before now (record { written = first; status = 0 })
      first_ends e = subst (λ (t : List ℕ). let x : Answer = record { written = t; status = 0 } in Ends G before now x) (append-nil first)
          (of next a e)
        where
          of : (next : Next) → Reads next → taken s n s.genesis next line ≡ Ok None → Ends G before now (behind first done)
          of nexts.Line b e = absurd (none_more (line_shows s n s.genesis line) e)
          of nexts.Broken b e = absurd cc
          of nexts.End b e = ended b

      pub first_refuses : (words : List (List ℕ)) → taken s n s.genesis next line ≡ Err words → Settles G before now (behind first (stopped words))
      first_refuses = of next a none
        where
          refuses-line : Reads nexts.Line → None ≡ start_in s line → (words : List (List ℕ)) → line_shows s n s.genesis line ≡ Err words
              → Settles G before now (behind first (stopped words))
          refuses-line b other words e =
              let l = leads (λ rest. behind first (stopped words)) b
              (λ rest. anew-goes-on s n line (l.ahead ++ rest) (sym other)
              ∙ ap (λ r. behind first (goes_on s n (parts_of (l.ahead ++ rest)) r)) e) in
              record { read = l.read; taken = l.taken; is = inl l.is }

          err-is : (x y : List (List ℕ)) → (let r : Result (Option View) (List (List ℕ)) = Err x in r) ≡ Err y → x ≡ y
          err-is x y e = cc

          of : (next : Next) → Reads next → None ≡ start_next s next line → (words : List (List ℕ)) → taken s n s.genesis next line ≡ Err words
              → Settles G before now (behind first (stopped words))
          of nexts.Line b other words e = refuses-line b other words (words_more (line_shows s n s.genesis line) words e)
          of nexts.Broken b other words e =
              subst (λ (ws : List (List ℕ)). Settles G before now (behind first (stopped ws))) (err-is (no_line n) words e) (broken b)
          of nexts.End b other words e = absurd cc

      -- before the line is taken as a proof
      untaken : Reads nexts.Line → None ≡ start_in s line → (bytes : List ℕ) × ReachesBy G before now first (place kit n s.genesis bytes)
      untaken b other = (
        b.bytes,
        leads (λ rest. behind first (answer_at (place kit n s.genesis b.bytes) rest)) b
            (λ rest. anew s n line (l.ahead ++ rest) (sym other)
            ∙ ap (λ (t : List ℕ). behind first (chain_at s n s.genesis (t ∷ parts_of (l.ahead ++ rest)))) this
            ∙ ap (λ (ps : List (List ℕ)). behind first (chain_at s n s.genesis ps))
            (sym (parts_by_line (b.bytes ++ rest) l.line (l.ahead ++ rest)
            (line_stays b.bytes l.line l.ahead rest (short_is_first most_proof_line b.bytes l.line l.ahead b.takes))))),
      )

      pub first_stands : next ≡ nexts.Line → (old new : Option (List ℕ)) → Appends old new first → SomeShownBy G before now old new
      first_stands is old new wrote =
          let there = untaken (subst Reads is a) (subst (λ x. None ≡ start_next s x line) is none) in
          record { lines = first; are = inr (place kit n s.genesis there.0, there.1); wrote = wrote }

      -- the line of the first view in part
      longer : (old new : Option (List ℕ)) (more : List ℕ) → AppendsPrefix old new first → AppendsPrefix old new (first ++ more)
      longer old new more part = (
        part.0,
        (let all = length-append first more in let few = part.1 in omega (arith, all, few)),
        subst (λ (t : List ℕ). Appends old new t) (sym (take-append-le part.0 first more part.1)) part.2,
      )

      pub first_in_part : (old new : Option (List ℕ)) → AppendsPrefix old new first → InPartBy G before now old new
      first_in_part old new part = of next a none
        where
          of : (next : Next) → Reads next → None ≡ start_next s next line → InPartBy G before now old new
          of nexts.Line b other =
              let there = untaken b other in
              inl (record { mid = old; lines = []; place = place kit n s.genesis there.0; stands = there.1; wrote = Appends-nil old; part = part })
          of nexts.Broken b other =
              inr (record { all = behind first (stopped (no_line n)); is = broken b; wrote = longer old new (stopped (no_line n)).written part })
          of nexts.End b other =
              inr (record { all = behind first done; is = ends_settle G (behind first done) before now (ended b); wrote = longer old new [] part })

      pub second_in_part : (old new : Option (List ℕ)) → PartShown s n next line old new → InPartBy G before now old new
      second_in_part old new p = inl (record {
        mid = p.mid;
        lines = first;
        place = place kit (n + 1) p.view l.ahead;
        stands = first_shows p.view p.shown;
        wrote = p.wrote;
        part = p.part;
      })

      -- ---- by what was answered

      abbrev AnswersSo : Result (Option View) Stop → Type 0
      AnswersSo r = Makes input_words (λ (o : Option View). o) r (taken s n s.genesis next line)

      abbrev Wrote : Option (List ℕ) → Option (List ℕ) → Result (Option View) Stop → Type 0
      Wrote old new r = IfOk r (λ o. Appends old new (first_lines s.genesis o))

      pub first_begun : (r : Result (Option View) Stop) → AnswersSo r → (old new : Option (List ℕ)) → Wrote old new r
          → IfOk r (λ o. IfSome o (λ v. BegunBy G before now old new (place kit (n + 1) v l.ahead)))
      first_begun (Ok (Some w)) shown old new wrote = record { lines = first ++ view_line w; stands = first_shows w shown; wrote = wrote }
      first_begun (Ok None) shown old new wrote = tt
      first_begun (Err stop) shown old new wrote = tt

      pub first_ended : (r : Result (Option View) Stop) → AnswersSo r → (old new : Option (List ℕ)) → Wrote old new r → r ≡ Ok None
          → AnsweredBy G before now old new
      first_ended r shown old new wrote e = record { lines = first; all = first_ends (rw e at shown); wrote = rw e at wrote }

      pub first_some : (r : Result (Option View) Stop) (old new : Option (List ℕ))
          → (IsErrOf r stops.NoMemory → (new ≡ old) ⊎ ((next ≡ nexts.Line) × Appends old new first)) → ¬ IsErrOf r stops.Read
          → IfErr r (λ stop. (stop ≡ stops.Write) ⊎ IsSome (input_words stop) ⊎ SomeShownBy G before now old new)
      first_some (Ok o) old new room unread = tt
      first_some (Err stops.NoMemory) old new room unread = inr (inr (elim (room refl) [
        | inl same ↦ none_shown G before now old new same
        | inr line ↦ first_stands line.0 old new line.1
      ]))
      first_some (Err stops.Read) old new room unread = absurd (unread refl)
      first_some (Err stops.Write) old new room unread = inl refl
      first_some (Err (stops.Input fault)) old new room unread = inr (inl refl)

      pub first_faulty : (r : Result (Option View) Stop) → AnswersSo r → (fault : Fault) → r ≡ Err (stops.Input fault) → (old new : Option (List ℕ))
          → Appends old new first → FaultyBy G (words_of fault) before now old new
      first_faulty r shown fault e old new wrote = record { lines = first; is = first_refuses (words_of fault) (rw e at shown); wrote = wrote }
