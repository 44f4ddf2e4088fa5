-- What a node does with a process, it does with one that is alike.
use Rattle.std.proofs.Common.{◌≡◌, ℕ, ◌-◌, length, map, Bool, true, false, sym, ap, ◌∙◌, subst}
use Rattle.std.specs.Prelude.{if◌then◌else◌, ◌==◌, ◌&&◌, nat_le}
use Rattle.std.specs.List.{list_all}
use Rattle.group_defs.specs.Process.{Process}
use Rattle.group_defs.specs.Hearing.{is_valid}
use Rattle.group_defs.specs.Events.{Turn, Outcome, after, outcome}
use Rattle.journal_defs.specs.Entries.{Event, Entry}
use Rattle.image_laws.specs.Alike.{IsAlike}
use Rattle.image_laws.proofs.Turning.{turns_are_alike}
use Rattle.node_defs.specs.Lines.{host_line}
use Rattle.node_defs.specs.Casts.{Cast, live, outcome_of, entry_for, kept_turn, may_have_written}

module _ (c : Cast) (x y : Process) (is : IsAlike x y) where
  live-same : (e : Event) → live c y e ≡ live c x e
  live-same e = ap (λ (z : Process). live c z e) is.rest

  pub live-alike : (e : Event) → IsAlike (after c.setting x (live c x e)) (after c.setting y (live c y e))
  live-alike e = subst (λ (t : Turn). IsAlike (after c.setting x (live c x e)) (after c.setting y t)) (sym (live-same e))
      (turns_are_alike c.setting x y (live c x e) is).after_it

  pub outcome-alike : (e : Event) → outcome_of c y e ≡ outcome_of c x e
  outcome-alike e = ap (outcome c.setting y) (live-same e) ∙ (turns_are_alike c.setting x y (live c x e) is).answers

  pub entry-alike : (e : Event) → entry_for c y e ≡ entry_for c x e
  entry-alike e = λ i. record {
    process = (is.rest i).me;
    event = e;
    spent = (outcome-alike e i).spent;
    signatures = map (λ d. d.signature) (outcome-alike e i).signed;
  }

  -- ---- entries that are read

  kept-same : (e : Entry) → kept_turn y e ≡ kept_turn x e
  kept-same e = ap (λ (z : Process). kept_turn z e) is.rest

  pub kept-alike : (e : Entry) → IsAlike (after c.setting x (kept_turn x e)) (after c.setting y (kept_turn y e))
  kept-alike e = subst (λ (t : Turn). IsAlike (after c.setting x (kept_turn x e)) (after c.setting y t)) (sym (kept-same e))
      (turns_are_alike c.setting x y (kept_turn x e) is).after_it

  read-alike : (e : Entry) → outcome c.setting y (kept_turn y e) ≡ outcome c.setting x (kept_turn x e)
  read-alike e = ap (outcome c.setting y) (kept-same e) ∙ (turns_are_alike c.setting x y (kept_turn x e) is).answers

  pub may-alike : (e : Entry) → may_have_written c y e ≡ may_have_written c x e
  unfolding may_have_written
  may-alike e = λ i. may (read-alike e i) (is.rest i)
    where
      may : Outcome → Process → Bool
      may o p = (length o.signed == length e.signatures)
          && (if o.spent then e.spent else (if e.spent then false else true))
          && list_all (is_valid c.setting) o.signed
          && nat_le (length e.signatures) (c.total p.me - length p.signed)

  -- ---- what is said of it

  pub host-alike : (entries : ℕ) → host_line y entries ≡ host_line x entries
  host-alike entries = ap (λ (z : Process). host_line z entries) is.rest
