-- What a reader answers, once it has read enough.
use Rattle.std.proofs.Common.{◌⊎◌, ℕ, ◌<◌, ◌==◌, List, length, Option, arith, ap, true≢false, sym, ◌∙◌, inl, inr}
use Rattle.std.specs.List.{list_any}
use Rattle.std.specs.Io.KnownBytes.{IsAtEnd}
use Rattle.line_input.specs.declared.lines.Next.{Next}
use Rattle.line_input.specs.declared.lines.Next.TheVariants.{Line, Broken, End}
use Rattle.line_input.specs.Taking.{Answered, HasFeed, IsLast, ReadOn, Taken, Takes}
use Rattle.line_input.proofs.LineLaws.{far_away}

-- the bytes hold a line feed, or more than a line has, or all that the source has left
abbrev Enough : ℕ → Option (List ℕ) → List ℕ → Type 0
Enough most now bytes = HasFeed bytes ⊎ (most < length bytes) ⊎ IsAtEnd now

last_is : (most : ℕ) (now : Option (List ℕ)) (bytes : List ℕ) (l : Taken) (next : Next) → Enough most now bytes → Takes most bytes l next
    → IsLast most now bytes next
last_is most now bytes l Line enough t = tt
last_is most now bytes l Broken (inl feed) t = inl (far_away most bytes feed t.0)
last_is most now bytes l Broken (inr (inl long)) t = inl long
last_is most now bytes l Broken (inr (inr over)) t = inr over
last_is most now bytes l End (inl feed) t = absurd (true≢false (sym feed ∙ ap (λ (bs : List ℕ). list_any (λ b. b == 10) bs) t.0))
last_is most now bytes l End (inr (inl long)) t = absurd (omega (arith, ap length t.0))
last_is most now bytes l End (inr (inr over)) t = over

pub answered : (most : ℕ) (before now : Option (List ℕ)) (ahead bytes : List ℕ) (l : Taken) (next : Next) → ReadOn before now ahead bytes
    → Enough most now bytes → Takes most bytes l next → Answered most before now ahead l next
answered most before now ahead bytes l next read enough t = record {
  bytes = bytes;
  read = read;
  takes = t;
  last = last_is most now bytes l next enough t;
}
