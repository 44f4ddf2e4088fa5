-- From place to place.
use Rattle.std.proofs.Common.{◌≡◌, inl, inr, ℕ, ◌+◌, List, [], ◌++◌, Option, Result, Ok, Err, refl, sym, ap, subst, ◌∙◌, append_assoc}
use Rattle.std.specs.Io.KnownBytes.{Appends, Consumes}
use Rattle.std.proofs.KnownBytes.{Appends-nil, Appends-trans, Consumes-nil, Consumes-trans}
use Rattle.std.proofs.lemmas.List.{append-nil}
use Rattle.kit_defs.specs.Kits.{Kit}
use Rattle.kit_defs.specs.KitReading.{KitFault}
use Rattle.input_defs.specs.Fronts.{Front, front_of}
use Rattle.line_input.proofs.Places.{ends_more, leads_more, settles_more}
use Rattle.kit_reading.specs.Fronts.{Begins}
use Rattle.group_defs.specs.Views.{View}
use Rattle.rp_base.specs.Streams.{AppendsPrefix}
use Rattle.chain_text_defs.specs.Chains.{Answer, behind, chain_from, chain_of, done, kit_words, setting_of, stopped, view_line}
use Rattle.chain_words.specs.Places.{Ends, Leads, Place, ReadsMore, Settles, answer_at, place}
use Rattle.chain_words.specs.Running.{AnsweredBy, FaultyBy, ShownBy, ShownInPartBy, SomeShown, SomeShownBy, ShownInPart, Reaches, ReachesBy}
use Rattle.chain_words.proofs.Kits.{answer_by, kit_leads}

-- the same lines before it
pub behind_both : (a b : List ℕ) (x : Answer) → behind a (behind b x) ≡ behind (a ++ b) x
behind_both a b x = ap (λ (t : List ℕ). let y : Answer = record x { written = t } in y) (sym (append_assoc a b x.written))

-- ---- behind a kit

pub opened : (bytes : List ℕ) → chain_of bytes ≡ answer_by chain_from (front_of bytes)
unfolding chain_of
opened bytes = of (front_of bytes)
  where
    of : (r : Result Front KitFault) → (elim r [ Err fault ↦ stopped (kit_words fault) | Ok f ↦ chain_from f ]) ≡ answer_by chain_from r
    of (Err fault) = refl
    of (Ok f) = refl

-- a kit begins the input: the line of its first view is written, and the lines behind `go` follow
pub begun : (before now : Option (List ℕ)) (kit : Kit) (go : ℕ) (left : List ℕ) → Begins before now [] kit go left
    → Reaches before now (view_line (setting_of kit).genesis) (place kit (go + 1) (setting_of kit).genesis left)
begun before now kit go left b = kit_leads chain_of chain_from opened before now kit go left [] refl b

-- ---- the first view

module _ (before now : Option (List ℕ)) (kit : Kit) (go : ℕ) (left ahead : List ℕ) (nothing_ahead : ahead ≡ [])
    (begins : Begins before now ahead kit go left) (v : View) (first : v ≡ (setting_of kit).genesis) where
  pub first_stands : (n : ℕ) (w : View) → n ≡ go + 1 → w ≡ v → Reaches before now (view_line v) (place kit n w left)
  first_stands n w next same =
      let at : Reaches before now (view_line (setting_of kit).genesis) (place kit (go + 1) (setting_of kit).genesis left) =
      begun before now kit go left (subst (λ (t : List ℕ). Begins before now t kit go left) nothing_ahead begins) in
      let by_view : Reaches before now (view_line v) (place kit (go + 1) v left) =
      subst (λ (x : View). Reaches before now (view_line x) (place kit (go + 1) x left)) (sym first) at in
      let by_number : Reaches before now (view_line v) (place kit n v left) =
      subst (λ (m : ℕ). Reaches before now (view_line v) (place kit m v left)) (sym next) by_view in
      subst (λ (x : View). Reaches before now (view_line v) (place kit n x left)) (sym same) by_number

  pub first_in_part : (old new : Option (List ℕ)) → AppendsPrefix old new (view_line v) → ShownInPart before now old new
  first_in_part old new part = record {
    mid = old;
    lines = [];
    place = place kit (go + 1) v left;
    stands = first_stands (go + 1) v refl refl;
    wrote = Appends-nil old;
    part = part;
  }

  pub first_shown : (old new : Option (List ℕ)) → Appends old new (view_line v) → SomeShown before now old new
  first_shown old new wrote = record {
    lines = view_line v;
    are = inr (place kit (go + 1) v left, first_stands (go + 1) v refl refl);
    wrote = wrote;
  }

-- nothing was written yet
pub none_shown : (answer : List ℕ → Answer) (before now old new : Option (List ℕ)) → new ≡ old → SomeShownBy answer before now old new
none_shown answer before now old new e = record {
  lines = [];
  are = inl refl;
  wrote = subst (λ (t : Option (List ℕ)). Appends old t []) (sym e) (Appends-nil old);
}

-- ---- from a place on

-- nothing was read behind it
pub stands_there : (before : Option (List ℕ)) (p : Place) → ReachesBy (answer_at p) before before [] p
stands_there before p = record { read = []; taken = Consumes-nil before; is = λ rest. refl }

-- and nothing was written
pub shown_there : (before old : Option (List ℕ)) (p : Place) → ShownBy (answer_at p) before before old old
shown_there before old p = record { lines = []; place = p; stands = stands_there before p; wrote = Appends-nil old }

-- More was read, and the answer goes on behind these lines as another one.
module _ (answer then : List ℕ → Answer) (before mid now : Option (List ℕ)) (lines : List ℕ)
    (leads : Leads answer before mid (λ rest. behind lines (then rest))) where
  pub stands_then : (more : List ℕ) (q : Place) → ReachesBy then mid now more q → ReachesBy answer before now (lines ++ more) q
  stands_then more q there =
      let both = leads_more answer then (behind lines) before mid now leads (λ rest. behind more (answer_at q rest)) there in
      record {
        read = both.read;
        taken = both.taken;
        is = λ rest. both.is rest ∙ behind_both lines more (answer_at q rest);
      }

  pub settles_then : (a : Answer) → Settles then mid now a → Settles answer before now (behind lines a)
  settles_then a s = settles_more answer then (behind lines) before mid now leads a s

  pub ends_then : (a : Answer) → Ends then mid now a → Ends answer before now (behind lines a)
  ends_then a e = ends_more answer then (behind lines) before mid now leads a e

  -- and these lines were written
  module _ (old m : Option (List ℕ)) (wrote : Appends old m lines) (new : Option (List ℕ)) where
    pub next_in_part : (q : Place) → ReachesBy then mid now (view_line q.view) q → AppendsPrefix m new (view_line q.view)
        → ShownInPartBy answer before now old new
    next_in_part q shows part = record {
      mid = m;
      lines = lines;
      place = q;
      stands = stands_then (view_line q.view) q shows;
      wrote = wrote;
      part = part;
    }

    pub next_faulty : (words : List (List ℕ)) → Settles then mid now (stopped words) → new ≡ m → FaultyBy answer words before now old new
    next_faulty words settles e = record {
      lines = lines;
      is = settles_then (stopped words) settles;
      wrote = subst (λ (t : Option (List ℕ)). Appends old t lines) (sym e) wrote;
    }

    pub all_answered : Ends then mid now done → new ≡ m → AnsweredBy answer before now old new
    all_answered ends e = record {
      lines = lines;
      all = subst (λ (t : List ℕ). let a : Answer = record { written = t; status = 0 } in Ends answer before now a) (append-nil lines)
          (ends_then done ends);
      wrote = subst (λ (t : Option (List ℕ)). Appends old t lines) (sym e) wrote;
    }

    -- ---- and then a run of the other answer

    pub answered_then : AnsweredBy then mid now m new → AnsweredBy answer before now old new
    answered_then a = record {
      lines = lines ++ a.lines;
      all = ends_then (record { written = a.lines; status = 0 }) a.all;
      wrote = Appends-trans old m new lines a.lines wrote a.wrote;
    }

    pub shown_then : ShownBy then mid now m new → ShownBy answer before now old new
    shown_then a = record {
      lines = lines ++ a.lines;
      place = a.place;
      stands = stands_then a.lines a.place a.stands;
      wrote = Appends-trans old m new lines a.lines wrote a.wrote;
    }

    pub in_part_then : ShownInPartBy then mid now m new → ShownInPartBy answer before now old new
    in_part_then a = record {
      mid = a.mid;
      lines = lines ++ a.lines;
      place = a.place;
      stands = subst (λ (t : List ℕ). ReachesBy answer before now t a.place) (sym (append_assoc lines a.lines (view_line a.place.view)))
          (stands_then (a.lines ++ view_line a.place.view) a.place a.stands);
      wrote = Appends-trans old m a.mid lines a.lines wrote a.wrote;
      part = a.part;
    }

    pub faulty_then : (words : List (List ℕ)) → FaultyBy then words mid now m new → FaultyBy answer words before now old new
    faulty_then words a = record {
      lines = lines ++ a.lines;
      is = subst (Settles answer before now) (behind_both lines a.lines (stopped words))
          (settles_then (behind a.lines (stopped words)) a.is);
      wrote = Appends-trans old m new lines a.lines wrote a.wrote;
    }

-- More was read behind a place, and it is the same, with more ahead.
module _ (answer : List ℕ → Answer) (before mid now : Option (List ℕ)) (lines : List ℕ) (p : Place) (stands : ReachesBy answer before mid lines p)
  where
    reads_more : (read : List ℕ) → Consumes mid now read → ReachesBy answer before now lines (place p.kit p.number p.view (p.ahead ++ read))
    reads_more read taken = record {
      read = stands.read ++ read;
      taken = Consumes-trans before mid now stands.read read stands.taken taken;
      is = λ rest. ap answer (append_assoc stands.read read rest) ∙ stands.is (read ++ rest)
          ∙ ap (λ (t : List ℕ). behind lines (answer_at (place p.kit p.number p.view []) t)) (sym (append_assoc p.ahead read rest));
    }

    pub next_shown : (old m : Option (List ℕ)) → Appends old m lines → (new : Option (List ℕ)) → ReadsMore mid now → new ≡ m
        → ShownBy answer before now old new
    next_shown old m wrote new more e = record {
      lines = lines;
      place = place p.kit p.number p.view (p.ahead ++ more.0);
      stands = reads_more more.0 more.1;
      wrote = subst (λ (t : Option (List ℕ)). Appends old t lines) (sym e) wrote;
    }

-- of what was shown up to a place something was shown
pub some_of : (answer : List ℕ → Answer) (before now old new : Option (List ℕ)) → ShownBy answer before now old new
    → SomeShownBy answer before now old new
some_of answer before now old new s = record { lines = s.lines; are = inr (s.place, s.stands); wrote = s.wrote }
