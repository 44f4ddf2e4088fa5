-- What is let out one after the other.
use Rattle.std.proofs.Common.{◌≡◌, ℕ, List, [], ◌∷◌, ◌++◌, refl, sym, ap, subst, ◌∙◌}
use Rattle.std.specs.Prelude.{flat_map, zip}
use Rattle.std.specs.List.{AllZip}
use Rattle.std.proofs.lemmas.Grind.{flat_map-append}
use Rattle.std.proofs.lemmas.List.{append-nil, append_assoc}
use Rattle.group_defs.specs.Process.{Process}
use Rattle.node_defs.specs.Casts.{Cast}
use Rattle.node_defs.specs.Lines.{fault_line}
use Rattle.node_defs.specs.Nodes.{Leaving, Sends, Call, leaving_call, SendsTo, Answer, Done, Failed}
use Rattle.node_traces.specs.Ways.{Through}
use Rattle.node_traces.specs.Outside.{LinkSeen, LinkStep, LinkAnswered}
use Rattle.node_traces.specs.Service.{Asked, asking, hears}
use Rattle.node_traces.proofs.Joined.{one-after-the-other}
use Rattle.letting_laws.specs.Letting.{Fits, asked, reported_by, failed_by, Edge, edge, LetOut, HasBegun, LetOutInARow}

all_zip-append : (ls ms : List Leaving) (ws bs : List Answer) → AllZip Fits ls ws → AllZip Fits ms bs → AllZip Fits (ls ++ ms) (ws ++ bs)
all_zip-append [] ms [] bs first more = more
all_zip-append [] ms (a ∷ ws) bs first more = absurd first
all_zip-append (l ∷ ls) ms [] bs first more = absurd first
all_zip-append (l ∷ ls) ms (a ∷ ws) bs first more = (first.0, all_zip-append ls ms ws bs first.1 more)

zip-append : (ls ms : List Leaving) (ws bs : List Answer) → AllZip Fits ls ws → zip (ls ++ ms) (ws ++ bs) ≡ zip ls ws ++ zip ms bs
zip-append [] ms [] bs first = refl
zip-append [] ms (a ∷ ws) bs first = absurd first
zip-append (l ∷ ls) ms [] bs first = absurd first
zip-append (l ∷ ls) ms (a ∷ ws) bs first = ap (λ (xs : List (Leaving × Answer)). (l, a) ∷ xs) (zip-append ls ms ws bs first.1)

asked-append : (c : Cast) (ls ms : List Leaving) (ws bs : List Answer) → AllZip Fits ls ws
    → asked c (ls ++ ms) (ws ++ bs) ≡ asked c ls ws ++ asked c ms bs
asked-append c [] ms [] bs first = refl
asked-append c [] ms (a ∷ ws) bs first = absurd first
asked-append c (l ∷ ls) ms [] bs first = absurd first
asked-append c (l ∷ ls) ms (a ∷ ws) bs first = ap (λ (xs : List (Call × Answer)). (leaving_call c l, a) ∷ xs) (asked-append c ls ms ws bs first.1)

pub let-nothing : (c : Cast) (at : ℕ → Process) (e : Edge) → LetOut c at [] e e
unfolding Through
let-nothing c at e = record {
  answers = [];
  each = tt;
  link = refl;
  text = sym (append-nil e.text);
  late = sym (append-nil e.late);
  service = sym (append-nil e.service);
}

-- of both lists
of-both : (reported : Leaving × Answer → List ℕ) (ls ms : List Leaving) (ws bs : List Answer) (old mid new : List ℕ) → AllZip Fits ls ws
    → mid ≡ old ++ flat_map reported (zip ls ws) → new ≡ mid ++ flat_map reported (zip ms bs)
    → new ≡ old ++ flat_map reported (zip (ls ++ ms) (ws ++ bs))
of-both reported ls ms ws bs old mid new first one two =
    two ∙ ap (λ (t : List ℕ). t ++ flat_map reported (zip ms bs)) one ∙ append_assoc old (flat_map reported (zip ls ws)) (flat_map reported (zip ms bs))
    ∙ ap (λ (t : List ℕ). old ++ t) (sym (flat_map-append reported (zip ls ws) (zip ms bs))
    ∙ ap (flat_map reported) (sym (zip-append ls ms ws bs first)))

calls-of-both : (c : Cast) (ls ms : List Leaving) (ws bs : List Answer) (k l m : LinkSeen) → AllZip Fits ls ws
    → LinkAnswered k (asked c ls ws) l → LinkAnswered l (asked c ms bs) m → LinkAnswered k (asked c (ls ++ ms) (ws ++ bs)) m
calls-of-both c ls ms ws bs k l m each first more =
    subst (λ cs. LinkAnswered k cs m) (sym (asked-append c ls ms ws bs each))
    (one-after-the-other LinkStep k l m (asked c ls ws) (asked c ms bs) first more)

-- what the service heard of both lists
heard-of-both : (c : Cast) (at : ℕ → Process) (ls ms : List Leaving) (ws bs : List Answer) (old mid new : List Asked) → AllZip Fits ls ws
    → mid ≡ old ++ hears c at (asked c ls ws) → new ≡ mid ++ hears c at (asked c ms bs)
    → new ≡ old ++ hears c at (asked c (ls ++ ms) (ws ++ bs))
heard-of-both c at ls ms ws bs old mid new each one two =
    two ∙ ap (λ (t : List Asked). t ++ hears c at (asked c ms bs)) one
    ∙ append_assoc old (hears c at (asked c ls ws)) (hears c at (asked c ms bs))
    ∙ ap (λ (t : List Asked). old ++ t)
    (sym (flat_map-append (λ (i : Call × Answer). asking c at i.0 i.1) (asked c ls ws) (asked c ms bs))
    ∙ ap (hears c at) (sym (asked-append c ls ms ws bs each)))

pub let-both : (c : Cast) (at : ℕ → Process) (ls ms : List Leaving) (e f g : Edge) → LetOut c at ls e f → LetOut c at ms f g
    → LetOut c at (ls ++ ms) e g
let-both c at ls ms e f g first more = record {
  answers = first.answers ++ more.answers;
  each = all_zip-append ls ms first.answers more.answers first.each more.each;
  link = calls-of-both c ls ms first.answers more.answers e.link f.link g.link first.each first.link more.link;
  text = of-both reported_by ls ms first.answers more.answers e.text f.text g.text first.each first.text more.text;
  late = of-both failed_by ls ms first.answers more.answers e.late f.late g.late first.each first.late more.late;
  service = heard-of-both c at ls ms first.answers more.answers e.service f.service g.service first.each first.service more.service;
}

-- ---- one letter

pub sent-one : (c : Cast) (at : ℕ → Process) (me q : ℕ) (frame : List ℕ) (k l : LinkSeen) (text late : List ℕ) (h : List Asked)
    → LinkStep k (SendsTo (c.port q) (c.seal me q frame), Done) l
    → LetOut c at (Sends me q frame ∷ []) (edge k text late h) (edge l text late h)
unfolding Through
sent-one c at me q frame k l text late h step = record {
  answers = Done ∷ [];
  each = (tt, tt);
  link = (l, step, refl);
  text = sym (append-nil text);
  late = sym (append-nil late);
  service = sym (append-nil h);
}

pub failed-one : (c : Cast) (at : ℕ → Process) (me q : ℕ) (frame : List ℕ) (k l : LinkSeen) (text late new : List ℕ) (h : List Asked)
    → LinkStep k (SendsTo (c.port q) (c.seal me q frame), Failed) l → new ≡ late ++ fault_line me
    → LetOut c at (Sends me q frame ∷ []) (edge k text late h) (edge l text new h)
unfolding Through
failed-one c at me q frame k l text late new h step is = record {
  answers = Failed ∷ [];
  each = (tt, tt);
  link = (l, step, refl);
  text = sym (append-nil text);
  late = is ∙ ap (λ (t : List ℕ). late ++ t) (sym (append-nil (fault_line me)));
  service = sym (append-nil h);
}

-- ---- some of it

pub begun-with : (c : Cast) (at : ℕ → Process) (ls : List Leaving) (e f : Edge) → LetOut c at ls e f
    → HasBegun c at ls e.link e.service f.link f.service
begun-with c at ls e f out = record {
  first = ls;
  others = [];
  splits = sym (append-nil ls);
  answers = out.answers;
  each = out.each;
  link = out.link;
  service = out.service;
}

-- more was to come
pub begun-front : (c : Cast) (at : ℕ → Process) (ls ms : List Leaving) (k l : LinkSeen) (h i : List Asked) → HasBegun c at ls k h l i
    → HasBegun c at (ls ++ ms) k h l i
begun-front c at ls ms k l h i some = record {
  first = some.first;
  others = some.others ++ ms;
  splits = ap (λ (xs : List Leaving). xs ++ ms) some.splits ∙ append_assoc some.first some.others ms;
  answers = some.answers;
  each = some.each;
  link = some.link;
  service = some.service;
}

-- others went out before
pub begun-after : (c : Cast) (at : ℕ → Process) (ls ms : List Leaving) (e f : Edge) (l : LinkSeen) (i : List Asked) → LetOut c at ls e f
    → HasBegun c at ms f.link f.service l i → HasBegun c at (ls ++ ms) e.link e.service l i
begun-after c at ls ms e f l i before some = record {
  first = ls ++ some.first;
  others = some.others;
  splits = ap (λ (xs : List Leaving). ls ++ xs) some.splits ∙ sym (append_assoc ls some.first some.others);
  answers = before.answers ++ some.answers;
  each = all_zip-append ls some.first before.answers some.answers before.each some.each;
  link = calls-of-both c ls some.first before.answers some.answers e.link f.link l before.each before.link some.link;
  service = heard-of-both c at ls some.first before.answers some.answers e.service f.service i before.each before.service some.service;
}

pub let_out_in_a_row : LetOutInARow
let_out_in_a_row = record { both = let-both; begun = begun-with; front = begun-front; after = begun-after }
