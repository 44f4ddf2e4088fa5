-- The lines of keys, server by server.
use Rattle.std.proofs.Common.{◌≡◌, ℕ, List, [], ◌∷◌, ◌++◌, refl, sym, ap, ◌∙◌, append_assoc}
use Rattle.std.specs.List.{flat_map}
use Rattle.store_defs.specs.Serving.{Place}
use Rattle.store_defs.specs.Services.{keys_text}
use Rattle.store_defs.specs.Words.{reply_key_text, state_key_text}
use Rattle.store_giving.specs.Given.{giver_in, state_key_in}
use Rattle.store_replies.specs.Replying.{key_in, me_in}
use Rattle.store_server.specs.Serving.{AreServers}
use Rattle.store_server.specs.declared.server.Server.{Server}

reply-lines : (qs : List Place) (xs : List Server) → AreServers qs xs
    → flat_map (λ x. reply_key_text (me_in x.replies) (key_in x.replies).public) xs
    ≡ flat_map (λ q. reply_key_text q.me q.replies.public) qs
reply-lines [] [] are = refl
reply-lines [] (x ∷ xs) are = absurd are
reply-lines (q ∷ qs) [] are = absurd are
reply-lines (q ∷ qs) (x ∷ xs) are =
    let is = are.0.1.replies in
    λ i. reply_key_text (sym is.me i) (sym is.key i).public ++ reply-lines qs xs are.1 i

state-lines : (qs : List Place) (xs : List Server) → AreServers qs xs
    → flat_map (λ x. state_key_text (giver_in x.giving) (state_key_in x.giving).public) xs
    ≡ flat_map (λ q. state_key_text q.me q.states.public) qs
state-lines [] [] are = refl
state-lines [] (x ∷ xs) are = absurd are
state-lines (q ∷ qs) [] are = absurd are
state-lines (q ∷ qs) (x ∷ xs) are =
    let is = are.0.1.gives in
    λ i. state_key_text (sym is.me i) (sym is.key i).public ++ state-lines qs xs are.1 i

-- those of replies first, and then those of states
pub keys-written : (qs : List Place) (xs : List Server) (before mid after : List ℕ) → AreServers qs xs
    → mid ≡ before ++ flat_map (λ x. reply_key_text (me_in x.replies) (key_in x.replies).public) xs
    → after ≡ mid ++ flat_map (λ x. state_key_text (giver_in x.giving) (state_key_in x.giving).public) xs
    → after ≡ before ++ keys_text qs
unfolding keys_text
keys-written qs xs before mid after are first then =
    then
    ∙ (λ i. first i ++ state-lines qs xs are i)
    ∙ append_assoc before (flat_map (λ x. reply_key_text (me_in x.replies) (key_in x.replies).public) xs)
    (flat_map (λ q. state_key_text q.me q.states.public) qs)
    ∙ (λ i. before ++ (reply-lines qs xs are i ++ flat_map (λ q. state_key_text q.me q.states.public) qs))
