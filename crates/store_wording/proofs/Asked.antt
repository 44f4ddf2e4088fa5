-- The words of a request, and what is submitted by them.
use Rattle.std.proofs.Common.{◌≡◌, ℕ, Bool, true, false, List, [], ◌∷◌, length, Option, Some, None, refl}
use Rattle.std.specs.Prelude.{if◌then◌else◌, nat_le, option_map}
use Rattle.byte_defs.specs.Choices.{and_then}
use Rattle.text_defs.specs.Words.{process_of}
use Rattle.store_defs.specs.Stores.{Command}
use Rattle.store_text_defs.specs.Requests.{Request, asked_by, if_short, request_by, request_bytes}
use Rattle.store_wording.specs.Pieces.{Head, head_of, payload, submitted}

-- a tag and a command make the payload
pub tagged : (t : ℕ) (o : Option Command) → option_map payload (option_map (λ c. (t, c)) o) ≡ option_map (request_bytes t) o
tagged t None = refl
tagged t (Some c) = refl

-- who submits which bytes, where they are not too many
abbrev pub sized : ℕ → List ℕ → Option (ℕ × List ℕ)
sized p bytes = if nat_le (length bytes) 1024 then Some (p, bytes) else None

abbrev pub by_payload : ℕ → Option (List ℕ) → Option (ℕ × List ℕ)
by_payload p o = and_then o (sized p)

-- what is submitted by the first words and those after them
abbrev pub submits : Head × List (List ℕ) → Option (ℕ × List ℕ)
submits h = and_then (process_of h.0.process) (λ p. by_payload p (option_map payload (asked_by h.0.verb h.0.tag h.0.key h.1)))

short_submitted : (b : Bool) (r : Request) → option_map submitted (if b then Some r else None) ≡ (if b then Some (submitted r) else None)
short_submitted true r = refl
short_submitted false r = refl

asked_submitted : (p : ℕ) (o : Option (ℕ × Command))
    → option_map submitted (and_then o (λ a. if_short (record { process = p; tag = a.0; command = a.1 }))) ≡ by_payload p (option_map payload o)
asked_submitted p None = refl
asked_submitted p (Some a) = short_submitted (nat_le (length (request_bytes a.0 a.1)) 1024) (record { process = p; tag = a.0; command = a.1 })

of_process : (o : Option ℕ) (a : Option (ℕ × Command))
    → option_map submitted (and_then o (λ p. and_then a (λ a. if_short (record { process = p; tag = a.0; command = a.1 }))))
    ≡ and_then o (λ p. by_payload p (option_map payload a))
of_process None a = refl
of_process (Some p) a = asked_submitted p a

-- by the first words
pub by_head : (words : List (List ℕ)) → option_map submitted (request_by words) ≡ and_then (head_of words) submits
by_head [] = refl
by_head (a ∷ []) = refl
by_head (a ∷ b ∷ []) = refl
by_head (a ∷ b ∷ c ∷ []) = refl
by_head (a ∷ b ∷ c ∷ d ∷ words) = of_process (process_of a) (asked_by b c d words)
