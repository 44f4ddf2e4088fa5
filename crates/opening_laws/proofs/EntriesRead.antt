-- Entries that are read one after the other.
use Rattle.std.proofs.Common.{◌≡◌, ℕ, ◌+◌, ◌==◌, Bool, true, false, if◌then◌else◌, List, [], ◌∷◌, ◌++◌, length, filter, Option, Some, None, refl, sym, ap, subst, append_assoc, append-nil, arith, ◌∙◌}
use Rattle.std.proofs.lemmas.List.{length-append}
use Rattle.std.proofs.lemmas.List.Elements.{filter-append}
use Rattle.journal_defs.specs.Entries.{Entry}
use Rattle.node_defs.specs.Lines.{Stop, BadJournal}
use Rattle.node_defs.specs.Casts.{Cast, entries_of}
use Rattle.node_defs.specs.Nodes.{Node, reads, reads_one, takes_up}
use Rattle.opening_laws.specs.Reading.{ReadsOn, EachReadsOn, OneMoreCounts}

-- the node after the first entry, by whether it may have been written
by_first : Cast → Node → Entry → List Entry → Bool → Node
by_first c n e es taken = if taken then reads c (reads_one c n e) es else record n { stopped = Some (BadJournal n.gate) }

first-taken : (c : Cast) (n : Node) (e : Entry) (es : List Entry) (b : Bool) → takes_up c n e ≡ b → reads c n (e ∷ es) ≡ by_first c n e es b
unfolding reads by_first
first-taken c n e es b is = ap (by_first c n e es) is

-- one that runs after an entry took it up
took-first : (c : Cast) (n : Node) (e : Entry) (es : List Entry) → (reads c n (e ∷ es)).stopped ≡ None → takes_up c n e ≡ true
unfolding by_first
took-first c n e es runs = by (takes_up c n e) refl
  where
    by : (b : Bool) → takes_up c n e ≡ b → takes_up c n e ≡ true
    by true is = is
    by false is =
        let stops : Some (BadJournal n.gate) ≡ None = sym (ap (λ (m : Node). m.stopped) (first-taken c n e es false is)) ∙ runs in
        absurd cc

-- it goes on with the node that took it up
after-first : (c : Cast) (n : Node) (e : Entry) (es : List Entry) → takes_up c n e ≡ true → reads c n (e ∷ es) ≡ reads c (reads_one c n e) es
unfolding by_first
after-first c n e es is = first-taken c n e es true is

reads-append : (c : Cast) (n : Node) (es fs : List Entry) → (reads c n es).stopped ≡ None → reads c n (es ++ fs) ≡ reads c (reads c n es) fs
unfolding reads
reads-append c n [] fs runs = refl
reads-append c n (e ∷ es) fs runs =
    let is = took-first c n e es runs in
    let rest : reads c n (e ∷ es) ≡ reads c (reads_one c n e) es = after-first c n e es is in
    after-first c n e (es ++ fs) is
    ∙ reads-append c (reads_one c n e) es fs (sym (ap (λ (m : Node). m.stopped) rest) ∙ runs)
    ∙ ap (λ (m : Node). reads c m fs) (sym rest)

reads-kept : (c : Cast) (n : Node) (es : List Entry) → (reads c n es).stopped ≡ None → (reads c n es).kept ≡ n.kept ++ es
unfolding reads
reads-kept c n [] runs = sym (append-nil n.kept)
reads-kept c n (e ∷ es) runs =
    let rest : reads c n (e ∷ es) ≡ reads c (reads_one c n e) es = after-first c n e es (took-first c n e es runs) in
    ap (λ (m : Node). m.kept) rest
    ∙ reads-kept c (reads_one c n e) es (sym (ap (λ (m : Node). m.stopped) rest) ∙ runs)
    ∙ append_assoc n.kept (e ∷ []) es

nothing-read : (c : Cast) (n : Node) → reads c n [] ≡ n
unfolding reads
nothing-read c n = refl

not-taken : (c : Cast) (n : Node) (e : Entry) (fs : List Entry) → takes_up c n e ≡ false
    → reads c n (e ∷ fs) ≡ record n { stopped = Some (BadJournal n.gate) }
unfolding by_first
not-taken c n e fs is = first-taken c n e fs false is

pub each_reads_on : EachReadsOn
each_reads_on c n es runs = record {
  goes_on = λ fs. reads-append c n es fs runs;
  kept = reads-kept c n es runs;
  took = λ e is. reads-append c n es (e ∷ []) runs ∙ after-first c (reads c n es) e [] is ∙ nothing-read c (reads_one c (reads c n es) e);
  refused = λ e fs is. reads-append c n es (e ∷ fs) runs ∙ not-taken c (reads c n es) e fs is;
}

-- ---- how many

count-of-one : (b : Bool) (e : Entry) → length (if b then e ∷ [] else []) ≡ (if b then 1 else 0)
count-of-one true e = refl
count-of-one false e = refl

pub one_more_counts : OneMoreCounts
one_more_counts p es e =
    ap length (filter-append (λ f. f.process == p) es (e ∷ []))
    ∙ length-append (entries_of p es) (entries_of p (e ∷ []))
    ∙ ap (λ n. length (entries_of p es) + n) (count-of-one (e.process == p) e)
