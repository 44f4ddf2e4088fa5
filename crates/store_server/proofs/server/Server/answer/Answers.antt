use Rattle.std.proofs.Common.{inl, ap, subst}
use Rattle.std.proofs.Common.{map}
use Rattle.accounts.specs.Views.{delivery}
use Rattle.signature_defs.specs.Schemes.{is_valid}
use Rattle.sig_scheme.specs.Keys.{key_bytes}
use Rattle.sig_scheme.specs.Views.{scheme as scheme_in}
use Rattle.store_defs.specs.Holding.{payloads_of}
use Rattle.store_defs.specs.Serving as plain
use Rattle.store_words.specs.Views.{word as word_of}
use Rattle.store_giving.proofs.Telling.{on-ok}
use Rattle.store_server.specs.Serving.{IsCutOff, IsServer}
use Rattle.store_server.specs.declared.server.Server.{Server}
use Rattle.store_server.proofs.Parts.{replying-key}
use Rattle.store_server.proofs.Settled.{any-err, any-ok, on-err, worded-give, worded-key, worded-state}
use Rattle.store_server.proofs.server.Server.answer.Goals as goal

pub returns-in-Give-clause-after : goal.returns-in-Give-clause-after
returns-in-Give-clause-after c = λ q s is.
    let x : Server = record { replies = c.args.self.now.replies; giving = c.give.new.self } in
    any-ok c.give.result (subst (λ (t : plain.Server). IsServer q t x)
    (worded-give (is_valid (scheme_in c.args.scheme)) q (payloads_of (map delivery c.args.here.now)) s (word_of c.args.word.now)
    (ap word_of c.in-Give.is)) (record { replies = is.replies; gives = c.give.ensures.same q s is.gives }))

pub returns-in-Give-clause-lost : goal.returns-in-Give-clause-lost
returns-in-Give-clause-lost c = λ q s is.
    any-err c.give.result (inl (record { replies = is.replies; gives = c.give.ensures.same q s is.gives }))

pub returns-in-State-clause-after : goal.returns-in-State-clause-after
returns-in-State-clause-after c = λ q s is.
    on-ok c.offer.result (subst (λ (t : plain.Server). IsServer q t c.offer.new.self)
    (worded-state (is_valid (scheme_in c.args.scheme)) q (payloads_of (map delivery c.args.here.now)) s (word_of c.args.word.now)
    c.in-State.bytes.items c.deref.result.now (ap word_of c.in-State.is) c.deref.ensures.value)) (c.offer.ensures.after q s is)

pub returns-in-State-clause-lost : goal.returns-in-State-clause-lost
returns-in-State-clause-lost c = λ q s is.
    on-err c.offer.result (subst (λ (t : plain.Server). IsCutOff q s t c.offer.new.self)
    (worded-state (is_valid (scheme_in c.args.scheme)) q (payloads_of (map delivery c.args.here.now)) s (word_of c.args.word.now)
    c.in-State.bytes.items c.deref.result.now (ap word_of c.in-State.is) c.deref.ensures.value)) (c.offer.ensures.lost q s is)

pub returns-in-StateKey-clause-after : goal.returns-in-StateKey-clause-after
returns-in-StateKey-clause-after c = λ q s is.
    let x : Server = record { replies = c.args.self.now.replies; giving = c.hand.new.self } in
    subst (λ (t : plain.Server). IsServer q t x)
    (worded-key (is_valid (scheme_in c.args.scheme)) q (payloads_of (map delivery c.args.here.now)) s (word_of c.args.word.now)
    c.in-StateKey.process (key_bytes c.in-StateKey.key) (ap word_of c.in-StateKey.is))
    (record {
      replies = replying-key q s c.in-StateKey.process (key_bytes c.in-StateKey.key) c.args.self.now.replies is.replies;
      gives = c.hand.ensures q s is.gives;
    })
