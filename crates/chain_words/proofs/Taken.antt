-- What the calls of one step tell.
use Rattle.std.proofs.Common.{◌≡◌, ℕ, ◌+◌, List, Option, None, Some, Result, Ok, Err, sym, ap, subst, ◌∙◌}
use Rattle.signature_defs.specs.Schemes as schemes
use Rattle.kit_defs.specs.Kits.{Kit}
use Rattle.group_defs.specs.Views.{View}
use Rattle.group_defs.specs.Process.{Setting}
use Rattle.chain_defs.specs.declared.ChainFault.{ChainFault}
use Rattle.chain_defs.specs.Advance.{advance}
use Rattle.chain_text_defs.specs.Chains.{done, most_proof_line, proof_in, setting_of, stopped}
use Rattle.line_input.specs.Taking.{Answered, Taken}
use Rattle.line_input.specs.declared.lines.Next.{Next}
use Rattle.line_input.specs.declared.lines.Next.TheVariants as nexts
use Rattle.chain_words.specs.Lines.{frame_shows, line_shows, no_line, one_more, taken, view_or_words}
use Rattle.chain_words.specs.Places.{Ends, Settles, Shows, answer_at, place}
use Rattle.chain_words.proofs.Steps.{step_breaks, step_ends, step_refuses, step_shows}

ok_is : (o p : Option View) → (let r : Result (Option View) (List (List ℕ)) = Ok o in r) ≡ Ok p → o ≡ p
ok_is o p e = cc

some_is : (u w : View) → (let o : Option View = Some u in o) ≡ Some w → u ≡ w
some_is u w e = cc

err_is : {A : Type 0} (x y : List (List ℕ)) → (let r : Result A (List (List ℕ)) = Err x in r) ≡ Err y → x ≡ y
err_is x y e = cc

-- ---- a proof

-- a proof asks nothing of a setting but these three
same_advance : (kit : Kit) (t : Setting) (v : View) (bytes : List ℕ) → t.group ≡ kit.group → t.roster ≡ kit.keys
    → t.valid ≡ schemes.is_valid kit.scheme → advance t v bytes ≡ advance (setting_of kit) v bytes
unfolding advance
same_advance kit t v bytes group roster valid =
    λ i. advance (record { group = group i; roster = roster i; genesis = t.genesis; valid = valid i; signs = t.signs }) v bytes

-- what a chain answers to the frame of a line is what the line shows
pub line_shown : (kit : Kit) (t : Setting) (n : ℕ) (v : View) (line frame bytes : List ℕ) (r : Result View ChainFault) → t.group ≡ kit.group
    → t.roster ≡ kit.keys → t.valid ≡ schemes.is_valid kit.scheme → frame ≡ bytes → Some bytes ≡ proof_in line → advance t v frame ≡ r
    → line_shows (setting_of kit) n v line ≡ view_or_words n r
line_shown kit t n v line frame bytes r group roster valid same is e =
    ap (frame_shows (setting_of kit) n v) (sym is)
    ∙ ap (view_or_words n) (sym (same_advance kit t v bytes group roster valid) ∙ ap (advance t v) (sym same) ∙ e)

-- ---- what comes next

pub some_more : (r : Result View (List (List ℕ))) (w : View) → one_more r ≡ Ok (Some w) → r ≡ Ok w
some_more (Ok u) w e = ap (λ (x : View). let o : Result View (List (List ℕ)) = Ok x in o) (some_is u w (ok_is (Some u) (Some w) e))
some_more (Err words) w e = absurd cc

pub none_more : (r : Result View (List (List ℕ))) → one_more r ≡ Ok None → ⊥
none_more (Ok u) e = absurd cc
none_more (Err words) e = absurd cc

pub words_more : (r : Result View (List (List ℕ))) (words : List (List ℕ)) → one_more r ≡ Err words → r ≡ Err words
words_more (Ok u) words e = absurd cc
words_more (Err reported) words e = ap (λ (x : List (List ℕ)). let o : Result View (List (List ℕ)) = Err x in o) (err_is reported words e)

module _ (kit : Kit) (n : ℕ) (v : View) (ahead : List ℕ) (before now : Option (List ℕ)) (l : Taken) where
  abbrev Reads : Next → Type 0
  Reads next = Answered most_proof_line before now ahead l next

  module _ (line : List ℕ) (this : line ≡ l.line) where
    shows_line : (w : View) → line_shows (setting_of kit) n v line ≡ Ok w → Reads nexts.Line
        → Shows before now (place kit n v ahead) (place kit (n + 1) w l.ahead)
    shows_line w e a = step_shows kit n v ahead before now l a w (sym (ap (line_shows (setting_of kit) n v) this) ∙ e)

    -- a line that shows a view
    pub view_taken : (next : Next) → Reads next → (w x : View) → taken (setting_of kit) n v next line ≡ Ok (Some w) → x ≡ w
        → Shows before now (place kit n v ahead) (place kit (n + 1) x l.ahead)
    view_taken nexts.Line a w x e same =
        subst (λ (y : View). Shows before now (place kit n v ahead) (place kit (n + 1) y l.ahead)) (sym same)
        (shows_line w (some_more (line_shows (setting_of kit) n v line) w e) a)
    view_taken nexts.Broken a w x e same = absurd cc
    view_taken nexts.End a w x e same = absurd cc

    -- the input has ended
    pub none_taken : (next : Next) → Reads next → taken (setting_of kit) n v next line ≡ Ok None
        → Ends (answer_at (place kit n v ahead)) before now done
    none_taken nexts.Line a e = absurd (none_more (line_shows (setting_of kit) n v line) e)
    none_taken nexts.Broken a e = absurd cc
    none_taken nexts.End a e = step_ends kit n v ahead before now l a

    -- no line, or one that shows no view
    pub line_refused : (next : Next) → Reads next → (words : List (List ℕ)) → taken (setting_of kit) n v next line ≡ Err words
        → Settles (answer_at (place kit n v ahead)) before now (stopped words)
    line_refused nexts.Line a words e = step_refuses kit n v ahead before now l a words
        (sym (ap (line_shows (setting_of kit) n v) this) ∙ words_more (line_shows (setting_of kit) n v line) words e)
    line_refused nexts.Broken a words e = subst (λ (ws : List (List ℕ)). Settles (answer_at (place kit n v ahead)) before now (stopped ws))
        (err_is (no_line n) words e) (step_breaks kit n v ahead before now l a)
    line_refused nexts.End a words e = absurd cc
