-- The text that serde_json writes of findings is theirs.
use Rattle.std.proofs.Common.{◌≡◌, ℕ, zero, suc, ◌<◌, List, [], ◌∷◌, ◌++◌, map, codes, Bool, true, false, refl, sym, ap, ◌∙◌, arith}
use Rattle.std.specs.Prelude.{◌/◌, ◌%◌, ◌||◌, slice_index, decimal}
use Rattle.std.specs.List.{join_with_byte}
use Rattle.std.proofs.lemmas.List.{append_assoc}
use Rattle.hex.specs.Hex.{IsBytes, lower_digits, encode_lower, encode_with}
use Rattle.json.specs.Print.{escape, escape_byte}
use Rattle.serde_json.specs.Data.{Data, boolean}
use Rattle.serde_json.specs.View.{items_of}
use Rattle.serde_json.specs.Written.{compact_text, items_text, has_float}
use Rattle.serde_json.proofs.OnLiterals.{serde_json_on_literals}
use Rattle.std.specs.List.{AllByRecursion}
use Rattle.group_defs.specs.Views.{View}
use Rattle.group_defs.specs.Accounts.{Account}
use Rattle.audit_defs.specs.Findings.{Reported, Findings, bool_text, array_text, hex_text, view_text, process_text, reported_text, findings_text, delivered_in_all}
use Rattle.findings_laws.specs.Values.{array_of, number_of, hex_of, view_data, process_data, reported_data, findings_data}
use Rattle.findings_laws.specs.Laws.{AreBytes, FindingsAreCompact}

-- ---- hexadecimal digits want no escape

digit-plain : (d : ℕ) → d < 16 → escape_byte (slice_index lower_digits d) ≡ slice_index lower_digits d ∷ []
unfolding escape_byte
digit-plain zero lt = refl
digit-plain (suc zero) lt = refl
digit-plain (suc (suc zero)) lt = refl
digit-plain (suc (suc (suc zero))) lt = refl
digit-plain (suc (suc (suc (suc zero)))) lt = refl
digit-plain (suc (suc (suc (suc (suc zero))))) lt = refl
digit-plain (suc (suc (suc (suc (suc (suc zero)))))) lt = refl
digit-plain (suc (suc (suc (suc (suc (suc (suc zero))))))) lt = refl
digit-plain (suc (suc (suc (suc (suc (suc (suc (suc zero)))))))) lt = refl
digit-plain (suc (suc (suc (suc (suc (suc (suc (suc (suc zero))))))))) lt = refl
digit-plain (suc (suc (suc (suc (suc (suc (suc (suc (suc (suc zero)))))))))) lt = refl
digit-plain (suc (suc (suc (suc (suc (suc (suc (suc (suc (suc (suc zero))))))))))) lt = refl
digit-plain (suc (suc (suc (suc (suc (suc (suc (suc (suc (suc (suc (suc zero)))))))))))) lt = refl
digit-plain (suc (suc (suc (suc (suc (suc (suc (suc (suc (suc (suc (suc (suc zero))))))))))))) lt = refl
digit-plain (suc (suc (suc (suc (suc (suc (suc (suc (suc (suc (suc (suc (suc (suc zero)))))))))))))) lt = refl
digit-plain (suc (suc (suc (suc (suc (suc (suc (suc (suc (suc (suc (suc (suc (suc (suc zero))))))))))))))) lt = refl
digit-plain (suc (suc (suc (suc (suc (suc (suc (suc (suc (suc (suc (suc (suc (suc (suc (suc n)))))))))))))))) lt = absurd (omega (arith, lt))

escape-hex : (bytes : List ℕ) → IsBytes bytes → escape (encode_lower bytes) ≡ encode_lower bytes
unfolding encode_with
escape-hex [] h = refl
escape-hex (b ∷ bytes) h =
    let fits : b < 256 = h 0 in
    let high : b / 16 < 16 = omega (arith, fits) in
    let low : b % 16 < 16 = omega arith in
    λ i. digit-plain (b / 16) high i ++ (digit-plain (b % 16) low i ++ escape-hex bytes (λ k. h (suc k)) i)

hex-is : (bytes : List ℕ) → IsBytes bytes → compact_text (hex_of bytes) ≡ hex_text bytes
hex-is bytes h = ap (λ (t : List ℕ). 34 ∷ (t ++ 34 ∷ [])) (escape-hex bytes h)

-- ---- arrays

some-items : {A : Type 0} (g : A → Data) (text : A → List ℕ) (P : A → Type 0) → ((x : A) → P x → compact_text (g x) ≡ text x)
    → (x : A) (xs : List A) → P x → AllByRecursion P xs
    → items_text false (items_of (g x ∷ map g xs)) ≡ join_with_byte 44 (text x ∷ map text xs) ++ 93 ∷ []
some-items g text P same x [] p ps = ap (λ (t : List ℕ). t ++ 93 ∷ []) (same x p)
some-items g text P same x (y ∷ ys) p ps =
    ap (λ (t : List ℕ). t ++ 44 ∷ items_text false (items_of (g y ∷ map g ys))) (same x p)
    ∙ ap (λ (t : List ℕ). text x ++ 44 ∷ t) (some-items g text P same y ys ps.0 ps.1)
    ∙ sym (append_assoc (text x) (44 ∷ join_with_byte 44 (text y ∷ map text ys)) (93 ∷ []))

array-is : {A : Type 0} (g : A → Data) (text : A → List ℕ) (P : A → Type 0) → ((x : A) → P x → compact_text (g x) ≡ text x)
    → (xs : List A) → AllByRecursion P xs → compact_text (array_of g xs) ≡ array_text (map text xs)
array-is g text P same [] ps = refl
array-is g text P same (x ∷ xs) ps = ap (λ (t : List ℕ). 91 ∷ t) (some-items g text P same x xs ps.0 ps.1)

abbrev Always : {A : Type 0} → A → Type 0
Always x = Unit {0}

always : {A : Type 0} (xs : List A) → AllByRecursion Always xs
always [] = tt
always (x ∷ xs) = (tt, always xs)

no-floats : {A : Type 0} (g : A → Data) → ((x : A) → has_float (g x) ≡ false) → (xs : List A) → has_float (array_of g xs) ≡ false
no-floats g none [] = refl
no-floats g none (x ∷ xs) = λ i. none x i || no-floats g none xs i

-- ---- what is told

bool-is : (b : Bool) → compact_text (boolean b) ≡ bool_text b
bool-is true = refl
bool-is false = refl

view-is : (v : View) → compact_text (view_data v) ≡ view_text v
view-is v = array-is number_of decimal Always (λ n p. refl) v.members (always v.members)

process-is : (a : Account) → compact_text (process_data a) ≡ process_text a
unfolding serde_json_on_literals
process-is a = ap (λ (t : List ℕ). codes "{\"delivered\":" ++ (decimal (delivered_in_all a)
    ++ (codes ",\"process\":" ++ (decimal a.me ++ (codes ",\"views\":" ++ (t ++ codes "}"))))))
    (array-is view_data view_text Always (λ v p. view-is v) a.views (always a.views))

reported-is : (t : Reported) → AreBytes t → compact_text (reported_data t) ≡ reported_text t
unfolding serde_json_on_literals
reported-is t h = λ i. codes "{\"first\":" ++ (hex-is t.first h.0 i
    ++ (codes ",\"kind\":" ++ (decimal t.kind
    ++ (codes ",\"process\":" ++ (decimal t.process ++ (codes ",\"second\":" ++ (hex-is t.second h.1 i ++ codes "}")))))))

pub findings-is : (f : Findings) → AllByRecursion AreBytes f.convicted → compact_text (findings_data f) ≡ findings_text f
unfolding serde_json_on_literals
findings-is f h = λ i.
    codes "{\"agree\":" ++ (bool-is f.agree i
    ++ (codes ",\"bounded\":" ++ (bool-is f.bounded i
    ++ (codes ",\"convicted\":" ++ (array-is reported_data reported_text AreBytes reported-is f.convicted h i
    ++ (codes ",\"honest\":" ++ (bool-is f.honest i
    ++ (codes ",\"processes\":" ++ (array-is process_data process_text Always (λ a p. process-is a) f.accounts (always f.accounts) i
    ++ (codes ",\"sound\":" ++ (bool-is f.sound i ++ codes "}")))))))))))

-- ---- none of it is a float

view-whole : (v : View) → has_float (view_data v) ≡ false
view-whole v = no-floats number_of (λ n. refl) v.members

process-whole : (a : Account) → has_float (process_data a) ≡ false
process-whole a = λ i. no-floats view_data view-whole a.views i || false

pub findings-whole : (f : Findings) → has_float (findings_data f) ≡ false
findings-whole f = λ i. no-floats reported_data (λ t. refl) f.convicted i || (no-floats process_data process-whole f.accounts i || false)

pub findings_are_compact : FindingsAreCompact
findings_are_compact f h = (findings-whole f, findings-is f h)
