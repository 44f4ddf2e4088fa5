use Rattle.std.proofs.Common.{ℕ, List, refl, sym, ap, subst, ◌∙◌}
use Rattle.rp_base.specs.Rosters.{IsRising}
use Rattle.group_defs.specs.Process.{start}
use Rattle.replay_defs.specs.Worlds.{setting_of}
use Rattle.schedule_file.specs.Views as views
use Rattle.sig_scheme.specs.Signers.{used, total, signature}
use Rattle.member_core.specs.Cores.{IsCore}
use Rattle.replay_cast.proofs.Casting.{roster_rises}
use Rattle.replay_cast.proofs.cast.player_of.Goals as goal

pub roster_of-requires : goal.roster_of-requires
roster_of-requires c =
    let h = views.header c.args.header.now in
    let P : List (ℕ × List ℕ) → Type 0 = λ keys. IsRising keys in
    subst P (sym c.requires.entries) (roster_rises h.scheme 0 h.processes c.requires.header.processes)

pub returns : goal.returns
returns c = λ l keyed.
    let h = views.header c.args.header.now in
    let s = setting_of h in
    let core = c.in_ok-core.core in
    let P : ℕ → Type 0 = λ p. IsCore used s (start s p h.batch_limit) core in
    record {
      process = keyed.process;
      core = record {
        is = subst P keyed.process (c.in_ok-core.ensures.starts s
            (record {
              group = refl;
              roster = sym (c.in_ok-roster.ensures ∙ c.requires.entries);
              genesis = sym c.genesis_of.ensures;
              kinds = refl;
            }));
        total = ap total (c.in_ok-core.ensures.signer ∙ c.in_ok-signer.ensures) ∙ keyed.signer.total;
        signs = ap signature (c.in_ok-core.ensures.signer ∙ c.in_ok-signer.ensures) ∙ keyed.signer.signs;
      };
      said = c.new-2.ensures;
    }
