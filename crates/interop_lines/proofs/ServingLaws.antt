-- Lines that were served, one after the other.
use Rattle.std.proofs.Common.{◌≡◌, ◌⊎◌, inl, inr, ℕ, suc, ◌<◌, zero, List, [], ◌++◌, length, take, Option, Err, refl, sym, ap, ◌∙◌, append_assoc, arith, subst}
use Rattle.std.specs.Prelude.{IsErrOf}
use Rattle.std.proofs.KnownBytes.{Appends-nil, Appends-trans, Appends-kept, Consumes-nil, Consumes-trans}
use Rattle.std.proofs.lemmas.List.{append-nil}
use Rattle.std.specs.Io.KnownBytes.{Appends, Consumes, IsAtEnd, Keeps}
use Rattle.rp_base.specs.Streams.{AppendsPrefix, WritesLine}
use Rattle.interop_lines.specs.declared.stops.Stop.{Stop}
use Rattle.interop_lines.specs.declared.stops.Stop.TheVariants.{NoMemory, Read, Write, Line}
use Rattle.interop_lines.specs.Stops.{line_of, status_of}
use Rattle.interop_runs.specs.Runs.{Runs}
use Rattle.interop_lines.specs.Lines.{Answers}
use Rattle.interop_lines.specs.Reading.{HasFeed, ReadOn}
use Rattle.interop_lines.specs.Serving.{HasNoLine, HasNoQuestion, HasServed, Refused, ServedAndSays, IsLine, Nothing, OneMore, ServedInPart, SomeServed, ended}
use Rattle.interop_lines.proofs.LineLaws.{far_behind}

-- ---- by the status

pub at_read : (stop : Stop) → status_of stop ≡ 3 → stop ≡ Read
at_read NoMemory e = absurd (omega arith)
at_read Read e = refl
at_read Write e = absurd (omega arith)
at_read (Line n) e = absurd (omega arith)

pub at_write : (stop : Stop) → status_of stop ≡ 4 → stop ≡ Write
at_write NoMemory e = absurd (omega arith)
at_write Read e = absurd (omega arith)
at_write Write e = refl
at_write (Line n) e = absurd (omega arith)

pub at_line : (stop : Stop) → status_of stop ≡ 7 → (n : ℕ) × (stop ≡ Line n)
at_line NoMemory e = absurd (omega arith)
at_line Read e = absurd (omega arith)
at_line Write e = absurd (omega arith)
at_line (Line n) e = (n, refl)

pub line_is_not_write : (stop : Stop) (n : ℕ) → IsErrOf {T = Unit {0}} (Err stop) (Line n) → stop ≡ Write → ⊥
line_is_not_write stop n e write = apart cc
  where
    apart : Line n ≡ Write → ⊥
    apart is = absurd cc

-- where nothing is said, what was written stays
says_nothing : (a b c : Option (List ℕ)) (bytes : List ℕ) (f f' : ℕ) → Appends a b bytes → WritesLine [] b c f f' → Appends a c bytes
says_nothing a b c bytes f f' wrote (inl said) = rw (← append-nil bytes) (Appends-trans a b c bytes [] wrote said.0)
says_nothing a b c bytes f f' wrote (inr said) = rw (← append-nil bytes)
    (Appends-trans a b c bytes [] wrote (subst (Appends b c) (take-nothing said.0.0) said.0.2))
  where
    take-nothing : (n : ℕ) → take {A = ℕ} n [] ≡ []
    take-nothing zero = refl
    take-nothing (suc n) = refl

-- ---- by what a run may come to

module _ (R : Runs) where
  pub none_yet : (input output : Option (List ℕ)) → HasServed R 0 [] input input output output
  none_yet input output = record { input = []; output = []; served = Nothing; taken = Consumes-nil input; written = Appends-nil output }

  -- more was read, whether or not it is ahead
  pub read_more : (n : ℕ) (ahead more : List ℕ) (before mid now old new : Option (List ℕ)) → HasServed R n ahead before mid old new
      → Consumes mid now more → HasServed R n (ahead ++ more) before now old new
  read_more n ahead more before mid now old new s read = record {
    input = s.input;
    output = s.output;
    served = s.served;
    taken = subst (Consumes before now) (append_assoc s.input ahead more)
        (Consumes-trans before mid now (s.input ++ ahead) more s.taken read);
    written = s.written;
  }

  pub read_on : (n : ℕ) (ahead ahead' : List ℕ) (before mid now old new : Option (List ℕ)) → HasServed R n ahead before mid old new
      → ReadOn mid now ahead ahead' → HasServed R n ahead' before now old new
  read_on n ahead ahead' before mid now old new s read =
      let more = read_more n ahead read.0 before mid now old new s read.1 in
      subst (λ (bytes : List ℕ). HasServed R n bytes before now old new) (sym read.2) more

  -- a line was taken and answered
  pub served_one_more : (n : ℕ) (ahead line rest reported : List ℕ) (before now old mid new : Option (List ℕ))
      → HasServed R n ahead before now old mid
      → IsLine line → ahead ≡ ended line ++ rest → Answers R line reported → Appends mid new (ended reported)
      → HasServed R (suc n) rest before now old new
  served_one_more n ahead line rest reported before now old mid new s fits is answers wrote = record {
    input = s.input ++ ended line;
    output = s.output ++ ended reported;
    served = OneMore n s.input s.output line reported s.served fits answers;
    taken = subst (Consumes before now) (ap (λ (t : List ℕ). s.input ++ t) is ∙ sym (append_assoc s.input (ended line) rest)) s.taken;
    written = Appends-trans old mid new s.output (ended reported) s.written wrote;
  }

  pub in_part : (n : ℕ) (ahead line reported : List ℕ) (before now old mid new : Option (List ℕ)) → HasServed R n ahead before now old mid
      → Answers R line reported → AppendsPrefix mid new (ended reported) → ServedInPart R before now old new
  in_part n ahead line reported before now old mid new s answers wrote = (mid, (n, ahead, s), (line, reported, answers, wrote))

  -- no line was taken
  pub no_line : (ahead : List ℕ) (now : Option (List ℕ)) → 0 < length ahead → HasNoLine ahead
      → HasFeed ahead ⊎ ((1000000 < length ahead) ⊎ IsAtEnd now) → HasNoQuestion R ahead now
  no_line ahead now some none (inl feed) = inr (none, some, inl (far_behind ahead feed none))
  no_line ahead now some none (inr (inl long)) = inr (none, some, inl long)
  no_line ahead now some none (inr (inr end)) = inr (none, some, inr end)

  -- what was written stays
  pub stays : (n : ℕ) (ahead : List ℕ) (before now old mid new : Option (List ℕ)) → HasServed R n ahead before now old mid → Keeps mid new
      → HasServed R n ahead before now old new
  stays n ahead before now old mid new s kept = record {
    input = s.input;
    output = s.output;
    served = s.served;
    taken = s.taken;
    written = Appends-kept old mid new s.output s.written kept;
  }

  pub part_stays : (stop : Stop) (before now old mid new : Option (List ℕ)) (f f' : ℕ) → stop ≡ Write → ServedInPart R before now old mid
      → WritesLine (line_of stop) mid new f f' → ServedInPart R before now old new
  part_stays stop before now old mid new f f' is part said =
      let silent : WritesLine [] mid new f f' = subst (λ (s : Stop). WritesLine (line_of s) mid new f f') is said in
      (part.0, part.1, (part.2.0, part.2.1, part.2.2, (part.2.3.0, part.2.3.1, says_nothing part.0 mid new _ f f' part.2.3.2 silent)))

  pub says_so : (stop is : Stop) (before now old mid new : Option (List ℕ)) (f f' f'' : ℕ) → stop ≡ is
      → (stop ≡ Write) ⊎ SomeServed R before now old mid → (stop ≡ Write) ⊎ (f' ≡ f) → ¬ (is ≡ Write)
      → WritesLine (line_of stop) mid new f' f'' → ServedAndSays R is before now old new f f''
  says_so stop is before now old mid new f f' f'' e (inl write) calm other said = absurd (other (sym e ∙ write))
  says_so stop is before now old mid new f f' f'' e (inr served) (inl write) other said = absurd (other (sym e ∙ write))
  says_so stop is before now old mid new f f' f'' e (inr served) (inr same) other said =
      (mid, served, subst (λ (n : ℕ). WritesLine (line_of is) mid new n f'') same (subst (λ (s : Stop). WritesLine (line_of s) mid new f' f'') e said))

  pub refused_so : (stop : Stop) (number : ℕ) (before now old mid new : Option (List ℕ)) (f f' f'' : ℕ) → stop ≡ Line number
      → (n : ℕ) × (ahead : List ℕ) × (number ≡ suc n) × HasServed R n ahead before now old mid × HasNoQuestion R ahead now
      → (stop ≡ Write) ⊎ (f' ≡ f) → WritesLine (line_of stop) mid new f' f'' → Refused R before now old new f f''
  refused_so stop number before now old mid new f f' f'' e r (inl write) said = absurd (not-write (sym e ∙ write))
    where
      not-write : Line number ≡ Write → ⊥
      not-write is = absurd cc
  refused_so stop number before now old mid new f f' f'' e r (inr same) said =
      let line : stop ≡ Line (suc r.0) = e ∙ ap Line r.2 in (
        r.0,
        r.1,
        mid,
        r.3,
        r.4,
        subst (λ (n : ℕ). WritesLine (line_of (Line (suc r.0))) mid new n f'') same
            (subst (λ (s : Stop). WritesLine (line_of s) mid new f' f'') line said),
      )

  pub rewritten : (n : ℕ) (ahead : List ℕ) (before now old mid new : Option (List ℕ)) → HasServed R n ahead before now old mid → new ≡ mid
      → HasServed R n ahead before now old new
  rewritten n ahead before now old mid new s e = subst (HasServed R n ahead before now old) (sym e) s
