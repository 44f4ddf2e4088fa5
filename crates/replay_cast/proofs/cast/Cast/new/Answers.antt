use Rattle.std.proofs.Common.{◌≡◌, ℕ, List, map, ap, sym, subst, ◌∙◌}
use Rattle.signature_defs.specs.Schemes.{is_valid}
use Rattle.rp_base.specs.Rosters.{IsRising}
use Rattle.sig_scheme.specs.Views.{scheme}
use Rattle.replay_defs.specs.Worlds.{setting_of}
use Rattle.schedule_file.specs.declared.schedule.Listed.{Listed}
use Rattle.schedule_file.specs.Views as views
use Rattle.replay_cast.specs.Keyed.{AreKeyed, entry, key_of}
use Rattle.replay_cast.proofs.Casting.{roster_rises, keys_listed}
use Rattle.replay_cast.proofs.cast.Cast.new.Goals as goal

pub roster_of-requires : goal.roster_of-requires
roster_of-requires c =
    let h = views.header c.args.header.now in
    let K : List Listed → Type 0 = λ ls. AreKeyed (map views.listed ls) c.in_ok-all.all.items in
    let keyed : AreKeyed h.processes c.in_ok-all.all.items = subst K c.deref.ensures.value c.in_ok-all.ensures in
    let same : map entry c.in_ok-entries.entries.items ≡ (setting_of h).roster =
    c.in_ok-entries.ensures ∙ (ap (map key_of) c.deref-2.ensures.value ∙ keys_listed h.processes c.in_ok-all.all.items keyed) in
    let P : List (ℕ × List ℕ) → Type 0 = λ keys. IsRising keys in
    subst P (sym (ap (map entry) c.deref-3.ensures.value ∙ same)) (roster_rises h.scheme 0 h.processes c.requires.processes)

pub add_all-requires-clause-entries : goal.add_all-requires-clause-entries
add_all-requires-clause-entries c =
    let h = views.header c.args.header.now in
    let K : List Listed → Type 0 = λ ls. AreKeyed (map views.listed ls) c.in_ok-all.all.items in
    let keyed : AreKeyed h.processes c.in_ok-all.all.items = subst K c.deref.ensures.value c.in_ok-all.ensures in
    ap (map entry) c.deref-4.ensures.value
    ∙ (c.in_ok-entries.ensures ∙ (ap (map key_of) c.deref-2.ensures.value ∙ keys_listed h.processes c.in_ok-all.all.items keyed))

pub returns : goal.returns
returns c =
    let h = views.header c.args.header.now in
    let K : List Listed → Type 0 = λ ls. AreKeyed (map views.listed ls) c.in_ok-all.all.items in
    let keyed : AreKeyed h.processes c.in_ok-all.all.items = subst K c.deref.ensures.value c.in_ok-all.ensures in
    let same : map entry c.in_ok-entries.entries.items ≡ (setting_of h).roster =
    c.in_ok-entries.ensures ∙ (ap (map key_of) c.deref-2.ensures.value ∙ keys_listed h.processes c.in_ok-all.all.items keyed) in
    record {
      group = c.add_all.ensures.group;
      scheme = c.scheme_of.ensures ∙ ap (λ x. is_valid (scheme x)) (sym (c.add_all.ensures.scheme ∙ c.in_ok-scheme.ensures));
      roster = c.add_all.ensures.roster ∙ (c.in_ok-roster.ensures ∙ (ap (map entry) c.deref-3.ensures.value ∙ same));
      processes = c.in_ok-add_all.ensures.adds;
    }
