-- The servers of the hosted processes, one after the other, as a node begins.
use Rattle.std.proofs.Common.{◌≡◌, inl, ℕ, suc, ◌≤◌, List, [], ◌∷◌, ◌++◌, map, length, Option, Some, None, refl, sym, ap, subst, ◌∙◌, append_assoc, append-nil, arith, Vec, Global}
use Rattle.std.specs.Prelude.{◌==◌, IsTrue}
use Rattle.std.specs.Option.{option_map_or}
use Rattle.std.proofs.lemmas.Bool.{eq-eqb}
use Rattle.std.proofs.lemmas.List.{length-map}
use Rattle.std.proofs.lemmas.Slice.Zip.{all_zipped_more}
use Rattle.byte_defs.specs.Members.{has}
use Rattle.group_defs.specs.Accounts as reported
use Rattle.group_defs.specs.Accounts.{account_of}
use Rattle.group_defs.specs.Process.{Process, Setting, deliveries_of, views_of}
use Rattle.kit_defs.specs.Kits.{Kit}
use Rattle.pool_laws.proofs.Members.{mem-behind, mem-list_any}
use Rattle.pool_laws.proofs.Places.{length-snoc}
use Rattle.accounts.specs.Views.{account, delivery}
use Rattle.accounts.specs.declared.account.Account.{Account}
use Rattle.member_events.specs.declared.events.Delivered.{Delivered}
use Rattle.node_service.specs.Histories.{Cast, Version, cast_of}
use Rattle.node_service.specs.Words.{AreHosts, Core, IsCore, numbers_of}
use Rattle.node_service.specs.Hosts.{Hosts}
use Rattle.store_server.specs.Places.{Secret, server_of}
use Rattle.store_server.specs.Serving.{AreServers, IsServer, place_with}
use Rattle.store_server.specs.declared.server.Server.{Server}
use Rattle.store_service.specs.Service.{Serving, begun, begun_by, begun_of}
use Rattle.store_service.specs.Served.{AreThese}

-- ---- what a process tells of itself

-- the number of its view is how many it left
pub number-so : {G : Type 0} (count : G → ℕ) (s : Setting) (p : Process) (c : Core G) → IsCore count s p c → p.pool.view.number ≡ length p.left
unfolding IsCore
number-so count s p c is = is.keyless.state.number

module _ (p : Process) (a : Account) (is : account_of p ≡ account a) where
  -- it tells of one view at least
  pub some-view : 1 ≤ length a.views.items
  some-view =
      let long : length (views_of p) ≡ length a.views.items = ap (λ (b : reported.Account). length b.views) is in
      let count : length (views_of p) ≡ suc (length (map (λ v. v.view) p.left)) = length-snoc (map (λ v. v.view) p.left) p.pool.view in
      omega (arith, long, count)

  -- and of what it delivered there
  pub some-list : 1 ≤ length a.delivered.items
  some-list =
      let long : length (deliveries_of p) ≡ length (account a).delivered = ap (λ (b : reported.Account). length b.delivered) is in
      let count : length (deliveries_of p) ≡ suc (length (map (λ v. v.delivered) p.left)) =
      length-snoc (map (λ v. v.delivered) p.left) p.delivered in
      let mapped : length (account a).delivered ≡ length a.delivered.items =
      length-map a.delivered.items (λ (ds : Vec Delivered Global). map delivery ds.items) in
      omega (arith, long, count, mapped)

-- ---- one of them

module _ (c : Cast) (p : Process) (xs : List Serving) (old : List Server) (are : AreThese xs old) where
  -- with the secret that it has in the cast
  pub one-begun : (secret : Secret) (server : Server) → c.secret p.me ≡ Some secret
      → IsServer (place_with p.me c.setting.group secret) (server_of p) server → AreThese (xs ++ begun_of c p) (old ++ server ∷ [])
  one-begun secret server has is =
      subst (λ (ys : List Serving). AreThese (xs ++ ys) (old ++ server ∷ []))
      (sym (ap (λ (o : Option Secret). option_map_or (λ key. begun_by c p key ∷ []) o []) has))
      (all_zipped_more (λ (x : Serving) (y : Server). IsServer x.place x.server y) xs old (begun_by c p secret) server are is)

  -- it has none
  pub none-begun : c.secret p.me ≡ None → AreThese (xs ++ begun_of c p) old
  none-begun has =
      subst (λ (ys : List Serving). AreThese (xs ++ ys) old)
      (sym (ap (λ (o : Option Secret). option_map_or (λ key. begun_by c p key ∷ []) o []) has))
      (subst (λ (ys : List Serving). AreThese ys old) (sym (append-nil xs)) are)

-- ---- all of them

begun-more : (c : Cast) (now : ℕ → Process) (done : List ℕ) (p : ℕ)
    → begun c (map now (done ++ p ∷ [])) ≡ begun c (map now done) ++ begun_of c (now p)
begun-more c now [] p = append-nil (begun_of c (now p))
begun-more c now (q ∷ done) p =
    ap (λ (ys : List Serving). begun_of c (now q) ++ ys) (begun-more c now done p)
    ∙ sym (append_assoc (begun_of c (now q)) (begun c (map now done)) (begun_of c (now p)))

-- of the hosted processes some are served, and the others are left
pub record SoFar (kit : Kit) (hosts : Hosts) (servers : List Server) (left : List ℕ) : Type 0 where
  pub done : List ℕ
  pub splits : numbers_of hosts ≡ done ++ left
  pub are : (version : Version) (now : ℕ → Process) → AreHosts (cast_of kit version) kit now None hosts
      → AreThese (begun (cast_of kit version) (map now done)) servers

pub none-yet : (kit : Kit) (hosts : Hosts) (servers : List Server) (left : List ℕ) → left ≡ numbers_of hosts → servers ≡ []
    → SoFar kit hosts servers left
none-yet kit hosts servers left same none = record {
  done = [];
  splits = sym same;
  are = λ version now hosted. subst (AreThese []) (sym none) tt;
}

module _ (kit : Kit) (hosts : Hosts) (old : List Server) (before left : List ℕ) (p : ℕ) (steps : before ≡ p ∷ left)
    (so : SoFar kit hosts old before) where
  -- the next one is hosted
  pub is-hosted : (c : Cast) (now : ℕ → Process) → AreHosts c kit now None hosts → IsTrue (has c.hosted p)
  is-hosted c now are =
      subst (λ (ps : List ℕ). IsTrue (has ps p)) (sym (so.splits ∙ ap (λ (ps : List ℕ). so.done ++ ps) steps) ∙ are.numbers)
      (mem-list_any (λ q. q == p) (so.done ++ p ∷ left) p (mem-behind so.done (p ∷ left) p (inl refl)) (eq-eqb p p refl))

  -- and is served now
  pub one-more : (new : List Server) → ((version : Version) (now : ℕ → Process) (xs : List Serving)
      → AreHosts (cast_of kit version) kit now None hosts → IsTrue (has (cast_of kit version).hosted p) → AreThese xs old
      → AreThese (xs ++ begun_of (cast_of kit version) (now p)) new)
      → SoFar kit hosts new left
  one-more new begins = record {
    done = so.done ++ p ∷ [];
    splits = so.splits ∙ ap (λ (ps : List ℕ). so.done ++ ps) steps ∙ sym (append_assoc so.done (p ∷ []) left);
    are = λ version now hosted. subst (λ (xs : List Serving). AreThese xs new) (sym (begun-more (cast_of kit version) now so.done p))
        (begins version now (begun (cast_of kit version) (map now so.done)) hosted (is-hosted (cast_of kit version) now hosted)
        (so.are version now hosted));
  }

pub all-begun : (kit : Kit) (hosts : Hosts) (servers : List Server) (left : List ℕ) → left ≡ [] → SoFar kit hosts servers left
    → (version : Version) (now : ℕ → Process) → AreHosts (cast_of kit version) kit now None hosts
    → AreThese (begun (cast_of kit version) (map now (cast_of kit version).hosted)) servers
all-begun kit hosts servers left none so version now hosted =
    subst (λ (ps : List ℕ). AreThese (begun (cast_of kit version) (map now ps)) servers)
    (sym (append-nil so.done) ∙ sym (so.splits ∙ ap (λ (ps : List ℕ). so.done ++ ps) none) ∙ hosted.numbers)
    (so.are version now hosted)

-- ---- their keys

pub servers-are : (xs : List Serving) (servers : List Server) → AreThese xs servers → AreServers (map (λ x. x.place) xs) servers
servers-are [] [] are = tt
servers-are [] (server ∷ servers) are = absurd are
servers-are (x ∷ xs) [] are = absurd are
servers-are (x ∷ xs) (server ∷ servers) are = ((x.server, are.0), servers-are xs servers are.1)
