-- The answer to a Want, by what is kept.
use Rattle.std.specs.Prelude.{ℕ, List, [], ◌∷◌, ◌++◌, ◌==◌, filter, flat_map, unwrap_or, slice_get, option_to_list}
use Rattle.std.specs.List.{range_with_len}
use Rattle.message_defs.specs.Statements.{Claim}
use Rattle.message_defs.specs.Packing.{Signed}
use Rattle.group_defs.specs.Process.{Pool}
use Rattle.group_defs.specs.Sending.{place_certificates}
use Rattle.sent_claims.specs.Certificates.{all_signed}
use Rattle.reliable_mcast.specs.Archives.{Archived}

-- the commit certificate of view x, where it was left
abbrev pub commit_kept : Archived → ℕ → List Signed
commit_kept a x = unwrap_or (slice_get a.commits x) []

-- of the current and the previous pool that of view x, where one of them is it
abbrev pub pools_kept : Archived → Pool → ℕ → List Pool
pools_kept a h x = filter (λ (g : Pool). g.view.number == x) (h ∷ option_to_list a.previous)

-- the certificates of eight places of these pools, from place k on
abbrev pub places_kept : List Pool → ℕ → List Claim
places_kept hs k = flat_map (λ h. flat_map (place_certificates h) (range_with_len k 8)) hs

-- what goes out on a Want for view x from place k on: the commit certificate, and the certificates of eight places
abbrev pub answer_kept : Archived → Pool → ℕ → ℕ → List Signed
answer_kept a h x k = commit_kept a x ++ all_signed (places_kept (pools_kept a h x) k)
