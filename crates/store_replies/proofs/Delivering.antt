-- What is written of a message that is delivered is the reply to it.
use Rattle.std.proofs.Common.{◌≡◌, ℕ, ◌≤◌, List, ◌++◌, Option, sym, ◌∙◌}
use Rattle.std.specs.Prelude.{option_map}
use Rattle.message_defs.specs.Statements.{Message}
use Rattle.store_defs.specs.Serving.{Place, Server, ReportedReply, position_at, reply_to}
use Rattle.store_defs.specs.Stores.{Store, answer_to}
use Rattle.store_defs.specs.Words.{reported_text}
use Rattle.store_keys.specs.Keys.{signs}
use Rattle.store_replies.specs.Words.{message_at, most_counted, word_of}
use Rattle.store_replies.specs.Replying.{IsReplying}
use Rattle.store_replies.specs.declared.replies.Replies.{Replies}
use Rattle.store_replies.proofs.Replied.{asked, reply-is}

module _ (q : Place) (s : Server) (place : ℕ) (payload : List ℕ) (m : Message) (a : Replies) (position : ℕ)
    (is : IsReplying q s a) (at : position ≡ position_at a.last place) where
  pub reported-so : (view : ℕ) (answered : Option (List ℕ)) (before after : List ℕ) → (signs a.key).total ≤ most_counted
      → answered ≡ option_map (λ (t : Store). answer_to t payload) a.store
      → after ≡ before ++ reported_text a.me (ReportedReply
      (word_of (signs a.key) a.group a.delivered (asked a.me view place position payload) answered))
      → after ≡ before ++ reported_text q.me (ReportedReply (reply_to q s view (message_at place payload m)))
  reported-so view answered before after few is_answer said =
      let word : reply_to q s view (message_at place payload m)
      ≡ word_of (signs a.key) a.group a.delivered (asked a.me view place position payload) answered =
      reply-is q s view place payload m a.me a.group (signs a.key) a.delivered a.last a.store is.me is.group is.key is.delivered is.last
      is.store few ∙ (λ i. word_of (signs a.key) a.group a.delivered (asked a.me view place (sym at i) payload) (sym is_answer i)) in
      said ∙ (λ i. before ++ reported_text (sym is.me i) (ReportedReply (sym word i)))
