-- How many journals host a process.
use Rattle.std.proofs.Common.{◌≡◌, ℕ, suc, ◌+◌, List, [], ◌∷◌, map, Bool, true, false, cond, refl, ap, ◌∙◌, arith}
use Rattle.std.specs.Prelude.{length, count_by, filter}
use Rattle.std.specs.List.{enumerate_from}
use Rattle.std.proofs.lemmas.List.Recursion.{is_count_by}
use Rattle.byte_defs.specs.Members.{has}
use Rattle.audit_defs.specs.Sources as plain
use Rattle.audit_defs.specs.Players.{hosts_of}
use Rattle.journal_steps.specs.declared.source.Source.{Source}
use Rattle.journal_steps.specs.Views.{source}
use Rattle.audit_sources.specs.Hosts.{is_host}

-- their indices count nothing
unnumbered : (p n : ℕ) (xs : List plain.Source) → length (filter (is_host p) (enumerate_from n xs)) ≡ length (filter (λ x. has x.hosted p) xs)
unnumbered p n [] = refl
unnumbered p n (x ∷ xs) = go (has x.hosted p) (unnumbered p (n + 1) xs)
  where
    go : (b : Bool) → length (filter (is_host p) (enumerate_from (n + 1) xs)) ≡ length (filter (λ x. has x.hosted p) xs)
        → length (cond b ((n, x) ∷ filter (is_host p) (enumerate_from (n + 1) xs)) (filter (is_host p) (enumerate_from (n + 1) xs)))
        ≡ length (cond b (x ∷ filter (λ x. has x.hosted p) xs) (filter (λ x. has x.hosted p) xs))
    go true rest = ap suc rest
    go false rest = rest

one-more : (b : Bool) (x : plain.Source) (xs : List plain.Source) → length (cond b (x ∷ xs) xs) ≡ cond b (1 + length xs) (length xs)
one-more true x xs = let counted : suc (length xs) ≡ 1 + length xs = omega arith in counted
one-more false x xs = refl

pub hosts-counted : (p : ℕ) (xs : List Source) → length (hosts_of (map source xs) p) ≡ count_by (λ x. has (source x).hosted p) xs
hosts-counted p xs = unnumbered p 0 (map source xs)
    ∙ is_count_by (λ xs. length (filter (λ x. has x.hosted p) (map source xs))) (λ x. has (source x).hosted p) refl
    (λ x xs. one-more (has (source x).hosted p) (source x) (filter (λ x. has x.hosted p) (map source xs))) xs
