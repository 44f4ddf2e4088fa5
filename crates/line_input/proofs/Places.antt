-- What an answer is, as bytes are read one after the other.
use Rattle.std.proofs.Common.{◌≡◌, inl, inr, ℕ, List, ◌++◌, Option, Some, None, ap, ◌∙◌, append_assoc, append-nil}
use Rattle.std.specs.Prelude.{IfSome}
use Rattle.std.proofs.KnownBytes.{Consumes-trans}
use Rattle.line_input.specs.Places.{Ends, Leads, Settles}

-- ---- first one piece was read, and then another one

module _ {A B : Type 0} (answer : List ℕ → A) (then : List ℕ → B) (f : B → A) (before mid now : Option (List ℕ))
    (first : Leads answer before mid (λ rest. f (then rest))) where
  further : (read rest : List ℕ) → answer ((first.read ++ read) ++ rest) ≡ f (then (read ++ rest))
  further read rest = ap answer (append_assoc first.read read rest) ∙ first.is (read ++ rest)

  pub leads_more : (goes_on : List ℕ → B) → Leads then mid now goes_on → Leads answer before now (λ rest. f (goes_on rest))
  leads_more goes_on more = record {
    read = first.read ++ more.read;
    taken = Consumes-trans before mid now first.read more.read first.taken more.taken;
    is = λ rest. further more.read rest ∙ ap f (more.is rest);
  }

  pub settles_more : (b : B) → Settles then mid now b → Settles answer before now (f b)
  settles_more b more = record {
    read = first.read ++ more.read;
    taken = Consumes-trans before mid now first.read more.read first.taken more.taken;
    is = elim more.is [
      | inl each ↦ inl (λ rest. further more.read rest ∙ ap f (each rest))
      | inr over ↦ inr (over.0, first.is more.read ∙ ap f over.1)
    ];
  }

  pub ends_more : (b : B) → Ends then mid now b → Ends answer before now (f b)
  ends_more b more = record {
    read = first.read ++ more.read;
    taken = Consumes-trans before mid now first.read more.read first.taken more.taken;
    ended = more.ended;
    is = first.is more.read ∙ ap f more.is;
  }

-- ---- an answer by another one

module _ {A B : Type 0} (answer : List ℕ → A) (by : List ℕ → B) (f : B → A) (is_by : (bytes : List ℕ) → answer bytes ≡ f (by bytes))
    (before now : Option (List ℕ)) (b : B) where
  pub settles_by : Settles by before now b → Settles answer before now (f b)
  settles_by s = record {
    read = s.read;
    taken = s.taken;
    is = elim s.is [
      | inl each ↦ inl (λ rest. is_by (s.read ++ rest) ∙ ap f (each rest))
      | inr over ↦ inr (over.0, is_by s.read ∙ ap f over.1)
    ];
  }

  pub ends_by : Ends by before now b → Ends answer before now (f b)
  ends_by e = record { read = e.read; taken = e.taken; ended = e.ended; is = is_by e.read ∙ ap f e.is }

-- ---- of a source that tells

module _ {A : Type 0} (answer : List ℕ → A) (a : A) where
  pub ends_settle : (before now : Option (List ℕ)) → Ends answer before now a → Settles answer before now a
  ends_settle before now e = record { read = e.read; taken = e.taken; is = inr (e.ended, e.is) }

  -- the answer to all that it had
  pub settles_all : (before now : Option (List ℕ)) → Settles answer before now a → IfSome before (λ bytes. answer bytes ≡ a)
  settles_all None now s = tt
  settles_all (Some bytes) None s = absurd s.taken
  settles_all (Some bytes) (Some left) s = elim s.is [
    | inl each ↦ ap answer s.taken ∙ each left
    | inr over ↦ ap answer (s.taken ∙ ap (λ (t : List ℕ). s.read ++ t) over.0 ∙ append-nil s.read) ∙ over.1
  ]
