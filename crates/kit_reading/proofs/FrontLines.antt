-- A kit read from the front of an input, line after line.
use Rattle.std.proofs.Common.{◌≡◌, ◌⊎◌, inl, inr, ℕ, ◌+◌, ◌<◌, ◌==◌, Bool, true, false, List, [], ◌∷◌, ◌++◌, length, Option, None, Some, Result, Ok, Err, refl, sym, ap, subst, ◌∙◌, append_assoc, arith}
use Rattle.std.specs.Prelude.{if◌then◌else◌, ◌&&◌, nat_lt, nat_eq, codes, IfSome}
use Rattle.std.specs.List.{slice_split, onto_first}
use Rattle.std.specs.Io.KnownBytes.{Consumes, IsAtEnd}
use Rattle.std.proofs.KnownBytes.{Consumes-nil, Consumes-trans}
use Rattle.std.proofs.lemmas.List.{append-nil}
use Rattle.std.proofs.lemmas.Bool.{le-leb}
use lib.Pointwise.{pointwise}
use Rattle.byte_defs.specs.Equality.{same_bytes}
use Rattle.byte_defs.specs.Fields.{◌>>=◌}
use Rattle.byte_defs.specs.Reads.{Fails, Makes}
use Rattle.sig_scheme.specs.Keys.{key_bytes}
use Rattle.text_defs.specs.Words.{line_feed, parts_of}
use Rattle.kit_defs.specs.Kits.{IsKit, Kit}
use Rattle.kit_defs.specs.KitReading as plain
use Rattle.kit_defs.specs.KitReading.{Draft, finish, kit_of, lines_at, most_line_bytes, take_line}
use Rattle.kit_defs.proofs.ReadKits.{read_is_spelled}
use Rattle.input_defs.specs.Lines.{line_at, line_within}
use Rattle.input_defs.specs.Fronts.{Front, ends_at, front_at, front_of, go}
use Rattle.input_defs.proofs.FirstLines.{line_again, line_by_byte, line_stays, no_short_line, none_longer, short_is_first, no_line_by_byte}
use Rattle.line_input.specs.Taking.{ReadOn, Taken}
use Rattle.kit_reading.specs.declared.faults.KitFault.{KitFault}
use Rattle.kit_reading.specs.declared.faults.KitFault.TheVariants as faults
use Rattle.kit_reading.specs.Faults.{fault_of}
use Rattle.kit_reading.specs.Fronts.{Begins, HasFault, LineTaken, NoLine}

-- ---- one line

-- reading goes on behind a line
abbrev after_line : List ℕ → ℕ → Draft → List ℕ → Result Front plain.KitFault
after_line line n d rest =
    if same_bytes line go then ends_at n d rest else take_line n d line >>= λ taken. front_at [] (n + 1) taken rest

by_line : (bytes acc line rest : List ℕ) (n : ℕ) (d : Draft) → line_at bytes ≡ Some (line, rest)
    → front_at acc n d bytes ≡ after_line (acc ++ line) n d rest
unfolding front_at
by_line [] acc line rest n d e = absurd cc
by_line (c ∷ bytes) acc line rest n d e = elim (line_by_byte c bytes line rest e) [
  | inl here ↦ rw (here.0, here.1, here.2, append-nil acc) refl
  | inr there ↦ rw there.1 (by_line bytes (acc ++ c ∷ []) there.0 rest n d there.2
      ∙ ap (λ (l : List ℕ). after_line l n d rest)
      (append_assoc acc (c ∷ []) there.0 ∙ ap (λ (l : List ℕ). acc ++ l) (sym there.3)))
]

no_more_lines : (bytes acc : List ℕ) (n : ℕ) (d : Draft) → line_at bytes ≡ None → front_at acc n d bytes ≡ Err (plain.Line n)
unfolding front_at
no_more_lines [] acc n d e = refl
no_more_lines (c ∷ bytes) acc n d e =
    let past = no_line_by_byte c bytes e in
    rw past.0 (no_more_lines bytes (acc ++ c ∷ []) n d past.1)

long_is_not_go : (line : List ℕ) → 2 < length line → same_bytes line go ≡ false
long_is_not_go [] long = absurd (omega arith)
long_is_not_go (a ∷ []) long = absurd (omega arith)
long_is_not_go (a ∷ b ∷ []) long = absurd (omega arith)
long_is_not_go (a ∷ b ∷ c ∷ line) long = of (nat_eq a 103) (nat_eq b 111)
  where
    of : (x y : Bool) → (x && (y && false)) ≡ false
    of true true = refl
    of true false = refl
    of false y = refl

too_long : (line : List ℕ) (n : ℕ) (d : Draft) → most_line_bytes < length line → take_line n d line ≡ Err (plain.Line n)
unfolding take_line
too_long line n d long = rw (le-leb (most_line_bytes + 1) (length line) (omega arith)) refl

-- where no line of a kit comes, it has this fault
bad_line : (bytes : List ℕ) (n : ℕ) (d : Draft) → line_within most_line_bytes bytes ≡ None → front_at [] n d bytes ≡ Err (plain.Line n)
bad_line bytes n d none = elim (no_short_line most_line_bytes bytes none) [
  | inl nowhere ↦ no_more_lines bytes [] n d nowhere
  | inr found ↦ by_line bytes [] found.0.0 found.0.1 n d found.1
      ∙ rw (long_is_not_go found.0.0 (omega (arith, found.2)), too_long found.0.0 n d found.2) refl
]

-- ---- the parts of a text

parts_by_line : (bytes line rest : List ℕ) → line_at bytes ≡ Some (line, rest) → parts_of bytes ≡ line ∷ parts_of rest
parts_by_line [] line rest e = absurd cc
parts_by_line (c ∷ bytes) line rest e = elim (line_by_byte c bytes line rest e) [
  | inl here ↦ rw (here.0, here.1, here.2) refl
  | inr there ↦ let more = parts_by_line bytes there.0 rest there.2 in rw (there.1, more, there.3) refl
]

one_part : (n : ℕ) (d : Draft) (line : List ℕ) (parts : List (List ℕ)) (first : List ℕ) (others : List (List ℕ)) → parts ≡ first ∷ others
    → lines_at n d (line ∷ parts) ≡ (take_line n d line >>= λ taken. lines_at (n + 1) taken parts)
unfolding lines_at
one_part n d line parts first others is = rw is refl

parts_some : (bytes : List ℕ) → (first : List ℕ) × (others : List (List ℕ)) × (parts_of bytes ≡ first ∷ others)
parts_some [] = ([], [], refl)
parts_some (c ∷ bytes) = of (c == line_feed) (parts_some bytes)
  where
    of : (t : Bool) → (first : List ℕ) × (others : List (List ℕ)) × (parts_of bytes ≡ first ∷ others)
        → (first : List ℕ) × (others : List (List ℕ))
        × ((if t then [] ∷ parts_of bytes else onto_first c (parts_of bytes)) ≡ first ∷ others)
    of true some = ([], parts_of bytes, refl)
    of false some = (c ∷ some.0, some.1, rw some.2 refl)

-- ---- the loop

-- Some lines were taken: the reading of all bytes that were read, whatever more comes, goes on at the line of this number with what is
-- ahead; and the lines are the front of a text, whose reading so goes on too.
pub record Going (before now : Option (List ℕ)) (ahead0 : List ℕ) (n : ℕ) (d : Draft) (ahead : List ℕ) : Type 0 where
  pub bytes : List ℕ
  pub read : ReadOn before now ahead0 bytes
  pub goes_on : (more : List ℕ) → front_of (bytes ++ more) ≡ front_at [] n d (ahead ++ more)
  pub text : List ℕ
  pub whole : (rest : List ℕ) → kit_of (text ++ rest) ≡ lines_at n d (parts_of rest)

pub begun : (before : Option (List ℕ)) (ahead : List ℕ) (d : Draft) → d ≡ plain.nothing → Going before before ahead 1 d ahead
unfolding kit_of
begun before ahead d none = record {
  bytes = ahead;
  read = ([], Consumes-nil before, sym (append-nil ahead));
  goes_on = λ more. ap (λ (e : Draft). front_at [] 1 e (ahead ++ more)) (sym none);
  text = [];
  whole = λ rest. ap (λ (e : Draft). lines_at 1 e (parts_of rest)) (sym none);
}

-- the next piece was read
record Read (before now : Option (List ℕ)) (ahead0 : List ℕ) (n : ℕ) (d : Draft) (ahead : List ℕ) : Type 0 where
  bytes : List ℕ
  read : ReadOn before now ahead0 bytes
  goes_on : (more : List ℕ) → front_of (bytes ++ more) ≡ front_at [] n d (ahead ++ more)

module _ (before mid now : Option (List ℕ)) (ahead0 : List ℕ) (n : ℕ) (d : Draft) (ahead : List ℕ)
    (so_far : Going before mid ahead0 n d ahead) where
  read_on : (bytes : List ℕ) → ReadOn mid now ahead bytes → Read before now ahead0 n d bytes
  read_on bytes more = record {
    bytes = so_far.bytes ++ more.0;
    read = (
      so_far.read.0 ++ more.0,
      Consumes-trans before mid now so_far.read.0 more.0 so_far.read.1 more.1,
      ap (λ (t : List ℕ). t ++ more.0) so_far.read.2 ∙ append_assoc ahead0 so_far.read.0 more.0,
    );
    goes_on = λ next. ap front_of (append_assoc so_far.bytes more.0 next) ∙ so_far.goes_on (more.0 ++ next)
        ∙ ap (front_at [] n d) (sym (append_assoc ahead more.0 next) ∙ ap (λ (t : List ℕ). t ++ next) (sym more.2));
  }

  -- no line of a kit comes
  pub has_no_line : (f : plain.KitFault) → f ≡ plain.Line n → NoLine mid now ahead → HasFault before now ahead0 f
  has_no_line f is none =
      let all = read_on none.bytes none.read in
      record {
        bytes = all.bytes;
        read = all.read;
        is = elim none.last [
          | inl long ↦ inl (λ more. all.goes_on more ∙ bad_line (none.bytes ++ more) n d (none_longer most_line_bytes none.bytes more none.none long)
              ∙ ap (λ (g : plain.KitFault). let r : Result Front plain.KitFault = Err g in r) (sym is))
          | inr over ↦ inr (
            over,
            ap front_of (sym (append-nil all.bytes)) ∙ all.goes_on []
                ∙ ap (front_at [] n d) (append-nil none.bytes) ∙ bad_line none.bytes n d none.none
                ∙ ap (λ (g : plain.KitFault). let r : Result Front plain.KitFault = Err g in r) (sym is),
          )
        ];
      }

  -- the lines before are a kit
  pub is_kit : (kit : Kit) → finish n d ≡ Ok kit → IsKit kit
  unfolding lines_at
  is_kit kit e = (read_is_spelled (so_far.text ++ []) kit (so_far.whole [] ∙ e)).1

  -- a line was taken
  module _ (l : Taken) (line : LineTaken mid now ahead l) where
    all : Read before now ahead0 n d line.bytes
    all = read_on line.bytes line.read

    at_first : line_at line.bytes ≡ Some (l.line, l.ahead)
    at_first = short_is_first most_line_bytes line.bytes l.line l.ahead line.line

    goes_after : (more : List ℕ) → front_of (all.bytes ++ more) ≡ after_line l.line n d (l.ahead ++ more)
    goes_after more = all.goes_on more
        ∙ by_line (line.bytes ++ more) [] l.line (l.ahead ++ more) n d (line_stays line.bytes l.line l.ahead more at_first)

    pub line_more : same_bytes l.line go ≡ false → (e : Draft) → take_line n d l.line ≡ Ok e → Going before now ahead0 (n + 1) e l.ahead
    line_more other e took = record {
      bytes = all.bytes;
      read = all.read;
      goes_on = λ more. goes_after more ∙ rw (other, took) refl;
      text = so_far.text ++ (l.line ++ line_feed ∷ []);
      whole = λ rest.
          let some = parts_some rest in
          ap kit_of (append_assoc so_far.text (l.line ++ line_feed ∷ []) rest
          ∙ ap (λ (t : List ℕ). so_far.text ++ t) (append_assoc l.line (line_feed ∷ []) rest))
          ∙ so_far.whole (l.line ++ line_feed ∷ rest)
          ∙ ap (lines_at n d) (parts_by_line (l.line ++ line_feed ∷ rest) l.line rest (line_again line.bytes l.line l.ahead rest at_first))
          ∙ one_part n d l.line (parts_of rest) some.0 some.1 some.2 ∙ rw took refl;
    }

    fails_with : (f : plain.KitFault) → ((more : List ℕ) → front_of (all.bytes ++ more) ≡ Err f) → HasFault before now ahead0 f
    fails_with f each = record { bytes = all.bytes; read = all.read; is = inl each }

    bad : same_bytes l.line go ≡ false → (f : plain.KitFault) → take_line n d l.line ≡ Err f → HasFault before now ahead0 f
    bad other f took = fails_with f (λ more. goes_after more ∙ rw (other, took) refl)

    pub fails : same_bytes l.line go ≡ false → (e : KitFault) → Fails fault_of e (take_line n d l.line)
        → IfSome (fault_of e) (HasFault before now ahead0)
    fails other faults.NoMemory took = tt
    fails other (faults.Line k) took = bad other (plain.Line k) took
    fails other (faults.Repeated k) took = bad other (plain.Repeated k) took
    fails other (faults.Missing k) took = bad other (plain.Missing k) took
    fails other (faults.KeyMismatch k made listed) took = bad other (plain.KeyMismatch k (key_bytes made) (key_bytes listed)) took

    pub begins : same_bytes l.line go ≡ true → (kit : Kit) → finish n d ≡ Ok kit → Begins before now ahead0 kit n l.ahead
    begins same kit e = record {
      bytes = all.bytes;
      read = all.read;
      is = ap front_of (sym (append-nil all.bytes)) ∙ goes_after [] ∙ ap (after_line l.line n d) (append-nil l.ahead) ∙ rw (same, e) refl;
    }

    unfinished : same_bytes l.line go ≡ true → (f : plain.KitFault) → finish n d ≡ Err f → HasFault before now ahead0 f
    unfinished same f e = fails_with f (λ more. goes_after more ∙ rw (same, e) refl)

    pub not_ended : same_bytes l.line go ≡ true → (e : KitFault) → Fails fault_of e (finish n d)
        → IfSome (fault_of e) (HasFault before now ahead0)
    not_ended same faults.NoMemory end = tt
    not_ended same (faults.Line k) end = unfinished same (plain.Line k) end
    not_ended same (faults.Repeated k) end = unfinished same (plain.Repeated k) end
    not_ended same (faults.Missing k) end = unfinished same (plain.Missing k) end
    not_ended same (faults.KeyMismatch k made listed) end = unfinished same (plain.KeyMismatch k (key_bytes made) (key_bytes listed)) end

-- ---- what the calls tell

-- the line is `go`, or not
pub is_go : (r t : Bool) (a b line : List ℕ) → r ≡ pointwise nat_eq a b → a ≡ line → b ≡ go → r ≡ t → same_bytes line go ≡ t
is_go r t a b line test is word answer = sym (ap (λ (x : List ℕ). same_bytes x go) is) ∙ sym (ap (same_bytes a) word) ∙ sym test ∙ answer

-- no line comes, so the input has this fault
pub no_line_fault : (before mid now : Option (List ℕ)) (ahead0 : List ℕ) (n : ℕ) (d : Draft) (ahead : List ℕ)
    → Going before mid ahead0 n d ahead → (o : Option plain.KitFault) → IfSome o (λ f. (f ≡ plain.Line n) × NoLine mid now ahead)
    → IfSome o (HasFault before now ahead0)
no_line_fault before mid now ahead0 n d ahead so_far None h = tt
no_line_fault before mid now ahead0 n d ahead so_far (Some f) h = has_no_line before mid now ahead0 n d ahead so_far f h.0 h.1
