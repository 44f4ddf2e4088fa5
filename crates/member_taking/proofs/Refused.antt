-- Which Submits are refused.
use Rattle.std.proofs.Common.{◌≡◌, ℕ, ◌+◌, ◌-◌, List, [], ◌∷◌, Bool, false, ap, ◌∙◌, length}
use Rattle.std.specs.Prelude.{◌==◌, not, nat_lt}
use Rattle.std.specs.Option.{option_map_or}
use Rattle.byte_defs.specs.Choices.{first_that_holds}
use Rattle.message_defs.specs.Limits.{most_payload_bytes}
use Rattle.group_defs.specs.Views.{is_member}
use Rattle.group_defs.specs.Process.{Setting, Process, earlier, delivered_from, places_in}
use Rattle.group_defs.specs.Events.{HaltedNow, Outsider, TooLong, Backlog, Submit, refusal, refusals}

-- one to a process that has not halted, by three tests
pub submitted : (s : Setting) (p : Process) → p.halted ≡ false → (payload : List ℕ) (member long full : Bool)
    → is_member p.pool.view p.me ≡ member → nat_lt most_payload_bytes (length payload) ≡ long
    → (length p.accepted - (earlier p + delivered_from p.me p.delivered) == 256) ≡ full
    → refusal s p (Submit payload) ≡ first_that_holds ((not member, Outsider) ∷ (long, TooLong) ∷ (full, Backlog) ∷ [])
submitted s p running payload member long full a b c =
    ap (λ t. first_that_holds ((t, HaltedNow (places_in p.delivered) (option_map_or (λ d. d.1.cut) p.decision 0))
    ∷ refusals s p (Submit payload))) running
    ∙ (λ i. first_that_holds ((not (a i), Outsider) ∷ (b i, TooLong) ∷ (c i, Backlog) ∷ []))
