-- The journals that are left to read.
use Rattle.std.proofs.Common.{◌≡◌, ℕ, ◌+◌, List, [], ◌∷◌, ◌++◌, Option, Some, None, Result, Ok, Err, sym, ap, ◌∙◌}
use Rattle.std.specs.Prelude.{filter_map}
use Rattle.std.specs.List.{cons_option, enumerate_from}
use Rattle.std.proofs.lemmas.List.{append-nil, append_assoc}
use Rattle.byte_defs.specs.Choices.{first_some}
use Rattle.kit_defs.specs.Kits.{Kit}
use Rattle.audit_defs.specs.Sources.{Source, source_of}
use Rattle.audit_defs.specs.Audits.{AuditFault, Entry}

module _ (kit : Kit) where
  -- the journal's index, where its header is not of the kit
  abbrev other_by : ℕ → Option Source → Option ℕ
  other_by n o = elim o [ None ↦ Some n | Some source ↦ None ]

  -- the first such index among the journals that are left
  abbrev others : ℕ → List (List ℕ) → Option ℕ
  others n left = first_some (λ j. other_by j.0 (source_of kit j.1)) (enumerate_from n left)

  -- these, where there is no such index
  abbrev unless : Option ℕ → List Source → Result (List Source) AuditFault
  unless o sources = elim o [ Some j ↦ Err (Entry j 0) | None ↦ Ok sources ]

  -- what becomes of all journals: those before this index were read, and these are left
  abbrev pub read-on : ℕ → List Source → List (List ℕ) → Result (List Source) AuditFault
  read-on n done left = unless (others n left) (done ++ filter_map (source_of kit) left)

  -- the next one, by what its header says
  abbrev next : ℕ → List Source → List (List ℕ) → Option Source → Result (List Source) AuditFault
  next n done left o = unless (let it : Option ℕ = elim (other_by n o) [ None ↦ others (n + 1) left | Some j ↦ Some j ] in it)
      (done ++ cons_option o (filter_map (source_of kit) left))

  pub one-read : (n : ℕ) (done : List Source) (x : List ℕ) (y : Source) (left : List (List ℕ)) → source_of kit x ≡ Some y
      → read-on n done (x ∷ left) ≡ read-on (n + 1) (done ++ y ∷ []) left
  one-read n done x y left is = ap (next n done left) is
      ∙ ap (unless (others (n + 1) left)) (sym (append_assoc done (y ∷ []) (filter_map (source_of kit) left)))

  pub one-other : (n : ℕ) (done : List Source) (x : List ℕ) (left : List (List ℕ)) → source_of kit x ≡ None
      → read-on n done (x ∷ left) ≡ Err (Entry n 0)
  one-other n done x left is = ap (next n done left) is

  pub all-read : (n : ℕ) (done : List Source) → read-on n done [] ≡ Ok done
  all-read n done = ap (λ sources. Ok sources) (append-nil done)
