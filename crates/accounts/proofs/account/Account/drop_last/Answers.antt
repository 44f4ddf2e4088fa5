use Rattle.std.proofs.Common.{◌≡◌, ◌∙◌, ◌-◌, ℕ, List, length, map, take, sym, ap, Vec, Global}
use Rattle.std.proofs.lemmas.List.{length-map, take-map}
use Rattle.group_defs.specs.Views.{View}
use Rattle.group_defs.specs.Process as defs
use Rattle.member_events.specs.declared.events.Delivered.{Delivered}
use Rattle.accounts.specs.Views.{account, delivery}
use Rattle.accounts.proofs.account.Account.drop_last.Goals as goal

-- what was delivered in a view
abbrev reported : Vec Delivered Global → List defs.Delivered
reported ds = map delivery ds.items

-- the lists without the last one
first : (lists shorter : List (Vec Delivered Global)) → shorter ≡ take (length lists - 1) lists
    → map reported shorter ≡ take (length (map reported lists) - 1) (map reported lists)
first lists shorter e = ap (map reported) e ∙ sym (take-map reported (length lists - 1) lists)
    ∙ ap (λ n. take (n - 1) (map reported lists)) (sym (length-map lists reported))

pub returns : goal.returns
returns c =
    let views : c.truncate.new.self.items ≡ take (length c.args.self.now.views.items - 1) c.args.self.now.views.items =
    c.truncate.ensures.items ∙ ap (λ n. take n c.args.self.now.views.items)
    (c.saturating_sub.ensures ∙ ap (λ n. n - 1) (c.len.ensures ∙ c.args.self.now.views.ok.0)) in
    let delivered : c.truncate-2.new.self.items ≡ take (length c.args.self.now.delivered.items - 1) c.args.self.now.delivered.items =
    c.truncate-2.ensures.items ∙ ap (λ n. take n c.args.self.now.delivered.items)
    (c.saturating_sub-2.ensures ∙ ap (λ n. n - 1) (c.len-2.ensures ∙ c.args.self.now.delivered.ok.0)) in
    let lists = first c.args.self.now.delivered.items c.truncate-2.new.self.items delivered in
    λ i. record (account c.args.self.now) { views = views i; delivered = lists i }
