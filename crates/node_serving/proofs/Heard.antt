-- What the service answers to a line, and that its letters can be sealed.
use Rattle.std.proofs.Common.{◌≡◌, ℕ, List, [], ◌∷◌, ◌++◌, sym, ap, subst, ◌∙◌}
use Rattle.std.specs.Prelude.{All, IsTrue}
use Rattle.std.proofs.Math.Logic.{∥∥₁_elim}
use Rattle.std.proofs.Props.{props}
use Rattle.std.proofs.lemmas.List.Elements.{All-weaker}
use Rattle.byte_defs.specs.Members.{has}
use Rattle.kit_defs.specs.Kits.{IsKit, Kit}
use Rattle.group_defs.specs.Process.{Process}
use Rattle.journal_defs.specs.declared.Version.{Version}
use Rattle.member_events.specs.declared.events.Sending.{Sending}
use Rattle.node_defs.specs.Casts.{Cast, cast_of}
use Rattle.node_defs.specs.Nodes.{Answer, Done, Leaving, Said, Words}
use Rattle.node_traces.specs.Outside.{LinkSeen}
use Rattle.node_traces.specs.Service.{Asked, one_asked}
use Rattle.letting_laws.specs.Letting.{edge, LetOut}
use Rattle.node_receiving.specs.Hosts.{Hosts, numbers_of}
use Rattle.node_receiving.specs.Service.{CanBeSent, HasNone, SaysTo, letters_in}
use Rattle.node_receiving.specs.Turns.{HasHosts, IsSealable}
use Rattle.node_receiving.proofs.Handed.{sends_can_be_sealed}

module _ {V : Type 0} (heard : V → List Asked → Type 0) (service : V) (h : List Asked) (c : Cast) (p : ℕ) (now : Process) (line : List ℕ) where
  -- the history, once the service has answered so
  abbrev Has : Answer → Type 0
  Has a = heard service (h ++ one_asked c (now ∷ []) (Words p line) a)

  -- the same text and letters, as they are lent
  pub lent-so : (text lent : List ℕ) (sends lent_sends : List Sending) → lent ≡ text → lent_sends ≡ sends → Has (Said text (letters_in sends))
      → Has (Said lent (letters_in lent_sends))
  lent-so text lent sends lent_sends text_is sends_are has =
      subst (λ (t : List ℕ). Has (Said t (letters_in lent_sends))) (sym text_is)
      (subst (λ (m : List Sending). Has (Said text (letters_in m))) (sym sends_are) has)

  module _ (lent old new : List ℕ) (sends sends_now : List Sending) (same : lent ≡ line) where
    -- text and letters began with nothing: they are the service's
    module _ (none : old ≡ []) (silent : sends ≡ []) (says : SaysTo heard service h c p now lent old new sends sends_now) where
      text-is : new ≡ says.text
      text-is = says.reported ∙ ap (λ (t : List ℕ). t ++ says.text) none

      more-is : sends_now ≡ says.more
      more-is = says.sent ∙ ap (λ (t : List Sending). t ++ says.more) silent

      pub says-all : Has (Said new (letters_in sends_now))
      says-all = lent-so says.text new says.more sends_now text-is more-is
          (subst (λ (l : List ℕ). heard service (h ++ one_asked c (now ∷ []) (Words p l) (Said says.text (letters_in says.more)))) same says.has)

      pub can-all : All (CanBeSent c p) (letters_in sends_now)
      can-all = subst (λ (m : List Sending). All (CanBeSent c p) (letters_in m)) (sym more-is) says.can

    -- the service has no such line
    pub none-so : HasNone heard service h c p now lent old new sends sends_now → Has Done
    none-so none = subst (λ (l : List ℕ). heard service (h ++ one_asked c (now ∷ []) (Words p l) Done)) same none.has

-- a letter can be sent by the cast of either kind of journal
can-so : (kit : Kit) (v w : Version) (p : ℕ) (letter : ℕ × List ℕ) → CanBeSent (cast_of kit v) p letter → CanBeSent (cast_of kit w) p letter
can-so kit v w p letter can = record { listed = can.listed; other = can.other; short = can.short }

pub can-anyway : (kit : Kit) (v w : Version) (p : ℕ) (letters : List (ℕ × List ℕ)) → All (CanBeSent (cast_of kit v) p) letters
    → All (CanBeSent (cast_of kit w) p) letters
can-anyway kit v w p letters can =
    All-weaker (CanBeSent (cast_of kit v) p) (CanBeSent (cast_of kit w) p) (can-so kit v w p) letters can

-- what was let out begins with no line
pub out-so : (c : Cast) (at : ℕ → Process) (ls : List Leaving) (k l : LinkSeen) (h : List Asked) (first late : List ℕ) → first ≡ []
    → LetOut c at ls (edge k [] first h) (edge l [] late h) → LetOut c at ls (edge k [] [] h) (edge l [] late h)
out-so c at ls k l h first late none out = subst (λ (t : List ℕ). LetOut c at ls (edge k [] t h) (edge l [] late h)) none out

-- its letters can be sealed
pub sealable-so : (kit : Kit) (hosts : Hosts) (p : ℕ) (letters : List (ℕ × List ℕ)) → ∥ IsKit kit ∥₁ → HasHosts kit hosts
    → IsTrue (has (numbers_of hosts) p) → ((version : Version) → All (CanBeSent (cast_of kit version) p) letters)
    → All (IsSealable kit p) letters
sealable-so kit hosts p letters real some hosted can = ∥∥₁_elim real (hlevel props) (λ is.
    sends_can_be_sealed kit some.version p letters is (subst (λ (ps : List ℕ). IsTrue (has ps p)) some.are.numbers hosted) (can some.version))
