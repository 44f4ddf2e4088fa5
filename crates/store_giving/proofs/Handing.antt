-- A key that is handed in is its process's from then on.
use Rattle.std.proofs.Common.{◌≡◌, ℕ, ◌<◌, List, length, Option, Some, None, Bool, true, false, refl, sym, ap, ◌∙◌, get_or}
use Rattle.std.specs.Prelude.{if◌then◌else◌, ◌==◌, find, option_map, set}
use Rattle.std.proofs.lemmas.Bool.{eqb-true, eqb-false}
use Rattle.std.proofs.lemmas.List.{get_or-set_same, get_or-set_other}
use Rattle.sig_scheme.specs.Keys.{key_bytes}
use Rattle.sig_scheme.specs.declared.public_key.PublicKey.{PublicKey}
use Rattle.store_defs.specs.Serving.{Server, handed_key, with_key}

abbrev pub key_at : List (Option PublicKey) → ℕ → Option (List ℕ)
key_at keys p = option_map key_bytes (get_or keys p None)

pub handed-in : (keys after : List (Option PublicKey)) (p : ℕ) (key : PublicKey) (q : ℕ) → p < length keys → after ≡ set keys p (Some key)
    → key_at after q ≡ (if p == q then Some (key_bytes key) else key_at keys q)
handed-in keys after p key q lt is = ap (λ (ks : List (Option PublicKey)). key_at ks q) is ∙ go (p == q) refl
  where
    go : (b : Bool) → b ≡ (p == q) → key_at (set keys p (Some key)) q ≡ (if b then Some (key_bytes key) else key_at keys q)
    go true same =
        let at : p ≡ q = eqb-true p q (sym same) in
        ap (λ (i : ℕ). key_at (set keys p (Some key)) i) (sym at) ∙ ap (option_map key_bytes) (get_or-set_same keys p (Some key) None lt)
    go false other = ap (option_map key_bytes) (get_or-set_other keys p q (Some key) None (λ at. eqb-false p q (sym other) (sym at)))

-- and so it is of the definitions' server
pub handed-key : (s : Server) (p : ℕ) (key : List ℕ) (q : ℕ)
    → handed_key (with_key p key s) q ≡ (if p == q then Some key else handed_key s q)
handed-key s p key q = go (p == q)
  where
    go : (b : Bool) → option_map (λ (k : ℕ × List ℕ). k.1) (if b then Some (p, key) else find (λ k. k.0 == q) s.keys)
        ≡ (if b then Some key else handed_key s q)
    go true = refl
    go false = refl
