-- Line after line.
use Rattle.std.proofs.Common.{◌≡◌, inl, inr, ℕ, ◌+◌, List, [], ◌∷◌, ◌++◌, length, Bool, true, false, Option, Some, Ok, Err, refl, sym, ap, subst, ◌∙◌, append_assoc, arith, length-append}
use Rattle.std.specs.Io.KnownBytes.{Appends, Consumes, IsAtEnd}
use Rattle.std.proofs.KnownBytes.{Appends-nil, Appends-trans, Consumes-nil, Consumes-trans}
use Rattle.std.proofs.lemmas.Grind.{flat_map-append}
use Rattle.std.proofs.lemmas.List.{append-nil}
use Rattle.rp_base.specs.Streams.{AppendsPrefix}
use Rattle.line_input.specs.Taking.{ReadOn}
use Rattle.store_text_defs.specs.declared.Filter.{Filter}
use Rattle.store_text_defs.specs.Filters.{AreMade, IsFaulty, IsLine, Made, Stopped, becomes, ended, input_of, output_of}
use Rattle.store_cli.specs.declared.stops.Stop.{Stop}
use Rattle.store_cli.specs.declared.stops.Stop.TheVariants.{NoMemory, Read, Write, Faulty}
use Rattle.store_cli.specs.Running.{Breaks, Done, MadeInPart, Ran, Refused, SomeMade, Stepped, Takes}

-- These lines were read, with the bytes that are ahead, and what becomes of them was written; the next line has this number.
pub record SoFar (f : Filter) (before now old new : Option (List ℕ)) (ahead : List ℕ) (number : ℕ) : Type 0 where
  pub made : Made
  pub are : AreMade f made
  pub taken : Consumes before now (input_of made ++ ahead)
  pub wrote : Appends old new (output_of made)
  pub number_is : number ≡ length made + 1

pub none_yet : (f : Filter) (before old : Option (List ℕ)) (ahead : List ℕ) (number : ℕ) → ahead ≡ [] → number ≡ 1
    → SoFar f before before old old ahead number
none_yet f before old ahead number none one = record {
  made = [];
  are = tt;
  taken = subst (Consumes before before) (sym none) (Consumes-nil before);
  wrote = Appends-nil old;
  number_is = one;
}

abbrev one : {A : Type 0} → A → List A
one a = a ∷ []

are_more : (f : Filter) (made : Made) (m : List ℕ × List ℕ) → AreMade f made → IsLine m.0 → becomes f m.0 ≡ Some m.1 → AreMade f (made ++ one m)
are_more f [] m are fits is = ((fits, is), tt)
are_more f (x ∷ made) m are fits is = (are.0, are_more f made m are.1 fits is)

input_more : (made : Made) (m : List ℕ × List ℕ) → input_of (made ++ one m) ≡ input_of made ++ ended m.0
input_more made m = flat_map-append (λ (x : List ℕ × List ℕ). ended x.0) made (one m)
    ∙ ap (λ (b : List ℕ). input_of made ++ b) (append-nil (ended m.0))

output_more : (made : Made) (m : List ℕ × List ℕ) → output_of (made ++ one m) ≡ output_of made ++ m.1
output_more made m = flat_map-append (λ (x : List ℕ × List ℕ). x.1) made (one m)
    ∙ ap (λ (b : List ℕ). output_of made ++ b) (append-nil m.1)

module _ (f : Filter) (before mid now old new : Option (List ℕ)) (ahead : List ℕ) (number : ℕ) (s : SoFar f before mid old new ahead number) where
  -- what is ahead was read on to these bytes
  taken_on : (bytes : List ℕ) → ReadOn mid now ahead bytes → Consumes before now (input_of s.made ++ bytes)
  taken_on bytes read =
      subst (Consumes before now) (append_assoc (input_of s.made) ahead read.0 ∙ ap (λ (b : List ℕ). input_of s.made ++ b) (sym read.2))
      (Consumes-trans before mid now (input_of s.made ++ ahead) read.0 s.taken read.1)

  kept : (last : Option (List ℕ)) → last ≡ new → Appends old last (output_of s.made)
  kept last same = subst (λ (o : Option (List ℕ)). Appends old o (output_of s.made)) (sym same) s.wrote

  pub some_made : (last : Option (List ℕ)) (bytes : List ℕ) → ReadOn mid now ahead bytes → last ≡ new → SomeMade f before now old last
  some_made last bytes read same = record {
    made = s.made;
    are = s.are;
    more = bytes;
    taken = taken_on bytes read;
    wrote = kept last same;
  }

  pub all_made : (last : Option (List ℕ)) → ReadOn mid now ahead [] → IsAtEnd now → last ≡ new → Done f before now old last
  all_made last read over same = record {
    input = input_of s.made;
    taken = subst (Consumes before now) (append-nil (input_of s.made)) (taken_on [] read);
    over = over;
    output = output_of s.made;
    is = record { made = s.made; are = s.are; input_is = refl; output_is = refl };
    wrote = kept last same;
  }

  stopped : (bytes : List ℕ) → IsFaulty f bytes → Stopped f (input_of s.made ++ bytes) (output_of s.made) number
  stopped bytes faulty = record {
    made = s.made;
    are = s.are;
    rest = bytes;
    input_is = refl;
    faulty = faulty;
    output_is = refl;
    number_is = s.number_is;
  }

  pub refused : (last : Option (List ℕ)) (n : ℕ) → n ≡ number → Breaks f mid now ahead → last ≡ new → Refused f n before now old last
  refused last n is b same = subst (λ (k : ℕ). Refused f k before now old last) (sym is) (record {
    read = input_of s.made ++ b.bytes;
    taken = taken_on b.bytes b.read;
    output = output_of s.made;
    is = elim b.is [
      | inl each ↦ inl (λ rest. subst (λ (t : List ℕ). Stopped f t (output_of s.made) number)
          (sym (append_assoc (input_of s.made) b.bytes rest)) (stopped (b.bytes ++ rest) (each rest)))
      | inr over ↦ inr (over.0, stopped b.bytes over.1)
    ];
    wrote = kept last same;
  })

  module _ (left : List ℕ) (m : List ℕ × List ℕ) (t : Takes f mid now ahead left m) where
    taken_more : Consumes before now (input_of (s.made ++ one m) ++ left)
    taken_more = subst (Consumes before now)
        (sym (append_assoc (input_of s.made) (ended m.0) left) ∙ ap (λ (b : List ℕ). b ++ left) (sym (input_more s.made m)))
        (taken_on (ended m.0 ++ left) t.read)

    pub made_more : (last : Option (List ℕ)) (next : ℕ) → next ≡ number + 1 → Appends new last m.1 → SoFar f before now old last left next
    made_more last next is wrote = record {
      made = s.made ++ one m;
      are = are_more f s.made m s.are t.fits t.is;
      taken = taken_more;
      wrote = subst (Appends old last) (sym (output_more s.made m)) (Appends-trans old new last (output_of s.made) m.1 s.wrote wrote);
      number_is = omega (arith, is, s.number_is, length-append s.made (one m));
    }

    pub made_in_part : (last : Option (List ℕ)) → AppendsPrefix new last m.1 → MadeInPart f before now old last
    made_in_part last part = record {
      made = s.made;
      next = m;
      are = are_more f s.made m s.are t.fits t.is;
      more = left;
      taken = taken_more;
      mid = new;
      wrote = s.wrote;
      part = part;
    }

  -- ---- by the answer of a step

  module _ (left : List ℕ) (last : Option (List ℕ)) where
    pub step_more : (b : Bool) → b ≡ true → Stepped f number mid now ahead left new last (Ok b) → (next : ℕ) → next ≡ number + 1
        → SoFar f before now old last left next
    step_more true is t next e = made_more left t.0 t.1 last next e t.2
    step_more false is t next e = absurd cc

    pub step_over : (b : Bool) → b ≡ false → Stepped f number mid now ahead left new last (Ok b) → Done f before now old last
    step_over true is t = absurd cc
    step_over false is t = all_made last t.0 t.1 t.2

    pub step_fails : (stop : Stop) → Stepped f number mid now ahead left new last (Err stop) → Ran f before now old last (Err stop)
    step_fails NoMemory t = some_made last t.0 t.1 t.2
    step_fails Read t = some_made last t.0 t.1 t.2
    step_fails Write t = made_in_part left t.0 t.1 last t.2
    step_fails (Faulty n) t = refused last n t.0 t.1 t.2

pub so_far_made : (f : Filter) (before now old new : Option (List ℕ)) (ahead : List ℕ) (number : ℕ) → SoFar f before now old new ahead number
    → SomeMade f before now old new
so_far_made f before now old new ahead number s = record {
  made = s.made;
  are = s.are;
  more = ahead;
  taken = s.taken;
  wrote = s.wrote;
}
