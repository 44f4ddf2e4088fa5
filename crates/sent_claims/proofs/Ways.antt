-- A list on its way to a whole list: claims in parts, one behind the other.
use Rattle.std.proofs.Common.{◌≡◌, ℕ, List, [], ◌∷◌, ◌++◌, Bool, false, refl, sym, ap, ◌∙◌, append_assoc}
use Rattle.std.specs.Prelude.{flat_map}
use Rattle.std.proofs.lemmas.List.{map-append}
use Rattle.message_defs.specs.Statements.{PlaceAt, KeepAt, Claim}
use Rattle.group_defs.specs.Process.{Pool}
use Rattle.group_defs.specs.Certified.{certificate_on}
use Rattle.group_defs.specs.Sending.{place_certificates}
use Rattle.message_defs.specs.Packing.{Signed, signed_of}
use Rattle.sent_claims.specs.Lists.{extended}
use Rattle.sent_claims.specs.Certificates.{all_signed, messages_at}
use Rattle.sent_claims.proofs.Extended.{extended-append}

-- what is left begins with this part: behind it the list is on its way still
pub way-next : (once : Bool) (now new whole left part rest : List Signed) → left ≡ part ++ rest → extended once now left ≡ whole
    → new ≡ extended once now part → extended once new rest ≡ whole
way-next once now new whole left part rest e way made = ap (λ cs. extended once cs rest) made ∙ sym
    (extended-append once now part rest) ∙ ap (extended once now) (sym e) ∙ way

-- nothing is left
pub way-end : (once : Bool) (now whole left : List Signed) → left ≡ [] → extended once now left ≡ whole → now ≡ whole
way-end once now whole left e way = sym (ap (extended once now) e) ∙ way

-- where there are no claims in all, there are none in a part
pub none-first : (part rest : List Signed) → part ++ rest ≡ [] → part ≡ []
none-first [] rest e = refl
none-first (c ∷ cs) rest e = absurd cc

pub none-others : (part rest : List Signed) → part ++ rest ≡ [] → rest ≡ []
none-others [] rest e = e
none-others (c ∷ cs) rest e = absurd cc

-- the claims that are made of the first of several, and those of the others
pub signed-next : {A : Type 0} (f : A → List Claim) (x : A) (xs : List A)
    → all_signed (flat_map f (x ∷ xs)) ≡ all_signed (f x) ++ all_signed (flat_map f xs)
signed-next f x xs = map-append signed_of (f x) (flat_map f xs)

pub signed-three : (a b c : List Claim) → all_signed (a ++ b ++ c) ≡ all_signed a ++ (all_signed b ++ all_signed c)
signed-three a b c = map-append signed_of (a ++ b) c ∙ ap (λ cs. cs ++ all_signed c)
    (map-append signed_of a b) ∙ append_assoc (all_signed a) (all_signed b) (all_signed c)

-- the certificates of a place, in three parts
pub place-parts : (h : Pool) (k x : ℕ) → x ≡ h.view.number
    → all_signed (place_certificates h k) ≡ all_signed (certificate_on h (PlaceAt x k))
    ++ (all_signed (messages_at h k) ++ all_signed (certificate_on h (KeepAt x k)))
place-parts h k x e =
    signed-three (certificate_on h (PlaceAt h.view.number k)) (messages_at h k) (certificate_on h (KeepAt h.view.number k))
    ∙ ap (λ y. all_signed (certificate_on h (PlaceAt y k)) ++ (all_signed (messages_at h k) ++ all_signed (certificate_on h (KeepAt y k))))
    (sym e)

-- behind the certificate of the place and those of its messages comes the Keep's
pub place-last : (h : Pool) (k x : ℕ) (l0 l1 l2 : List Signed) → x ≡ h.view.number
    → l1 ≡ extended false l0 (all_signed (certificate_on h (PlaceAt x k))) → l2 ≡ extended false l1 (all_signed (messages_at h k))
    → extended false l2 (all_signed (certificate_on h (KeepAt x k))) ≡ extended false l0 (all_signed (place_certificates h k))
place-last h k x l0 l1 l2 number one two =
    let place : List Signed = all_signed (certificate_on h (PlaceAt x k)) in
    let messages : List Signed = all_signed (messages_at h k) in
    let keep : List Signed = all_signed (certificate_on h (KeepAt x k)) in
    let whole : List Signed = extended false l0 (all_signed (place_certificates h k)) in
    way-next false l1 l2 whole (messages ++ keep) messages keep refl
    (way-next false l0 l1 whole (all_signed (place_certificates h k)) place (messages ++ keep) (place-parts h k x number) refl one) two
