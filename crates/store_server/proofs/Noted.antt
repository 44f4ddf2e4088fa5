-- What a note leaves.
use Rattle.std.proofs.Common.{◌≡◌, ◌⊎◌, inl, inr, ℕ, List, refl, sym, ap, ◌∙◌, subst}
use Rattle.message_defs.specs.Statements.{Message}
use Rattle.member_events.specs.declared.events.Note.{Note}
use Rattle.member_events.specs.declared.events.Note.TheVariants.{Delivered}
use Rattle.store_defs.specs.Serving as plain
use Rattle.store_defs.specs.Serving.{Place, after_message, after_note}
use Rattle.store_giving.specs.Given.{IsGiving}
use Rattle.store_replies.specs.Replying.{IsReplying}
use Rattle.store_replies.specs.Words.{message_at}
use Rattle.store_server.specs.Notes.{note_of}
use Rattle.store_server.specs.Serving.{IsServer}
use Rattle.store_server.specs.declared.server.Server.{Server}

-- a message that is delivered
abbrev pub message_of : ℕ → ℕ → Message
message_of sender number = record { sender = sender; number = number }

pub noted-delivered : (q : Place) (s : plain.Server) (n : Note) (view place sender number : ℕ) (payload bytes : List ℕ)
    → n ≡ Delivered view place sender number payload → bytes ≡ payload
    → after_message s (message_at place bytes (message_of sender number)) ≡ after_note q s (note_of n)
unfolding after_note
noted-delivered q s n view place sender number payload bytes is same =
    ap (λ (b : List ℕ). after_message s (message_at place b (message_of sender number))) same
    ∙ sym (ap (λ (m : Note). after_note q s (note_of m)) is)

module _ (q : Place) (s then after : plain.Server) (x : Server) (same : then ≡ after) where
  pub server-after : IsReplying q then x.replies → IsGiving q then x.giving → IsServer q after x
  server-after replies gives = subst (λ (t : plain.Server). IsServer q t x) same (record { replies = replies; gives = gives })

  -- or the server is as it was
  pub server-either : IsReplying q s x.replies ⊎ IsReplying q then x.replies → IsGiving q s x.giving → IsGiving q then x.giving
      → IsServer q s x ⊎ IsServer q after x
  server-either (inl before) gave gives = inl (record { replies = before; gives = gave })
  server-either (inr replies) gave gives = inr (server-after replies gives)
