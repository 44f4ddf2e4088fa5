-- The laws of an audit, each the contract of a public function of audit_laws.
-- Names here (* for this crate alone):
--   of an audit: WrittenIsTested, IsOfListed, AuditIsOfListed, NoneListedIsConvicted, HonestByFirsts, FirstGiveLast, FindingsHeadline
--   of what is read: takes_at, JournalIsWalked, BreakIsMet, own_entries, FamilyIsOfEntries
--   of evidence: EvidenceConvicts, EvidenceSparesCorrect
use Rattle.std.specs.Prelude.{◌≡◌, ◌≢◌, ◌⊎◌, ℕ, ◌+◌, ◌==◌, ◌&&◌, if◌then◌else◌, true, List, [], ◌∷◌, ◌++◌, length, map, filter, flat_map, IsTrue, ◌↔◌, All, Contains, Ok, Err}
use Rattle.std.specs.List.{AllByRecursion}
use Rattle.std.specs.List.Sorted.{IsStrictlyIncreasing}
use Rattle.message_defs.specs.Statements.{Claim, Conflicts, slot_of}
use Rattle.message_defs.specs.Claims.{Claims, frame_said}
use Rattle.message_defs.specs.Spelling.{IsClaim}
use Rattle.group_defs.specs.Process.{Setting, Process, start}
use Rattle.group_defs.specs.Hearing.{is_valid}
use Rattle.group_defs.specs.Family.{Family, numbers, ends, handed, Honest}
use Rattle.kit_defs.specs.Kits.{Kit, IsKit}
use Rattle.journal_defs.specs.Entries.{Entry, IsEntry}
use Rattle.journal_defs.specs.Journals.{open_gate, record_bytes, record_at}
use Rattle.audit_defs.specs.Sources.{Source, Step, Takes, Breaks, steps_from, steps_of}
use Rattle.audit_defs.specs.Players.{setting_of, turns_from, is_written, IsWritten}
use Rattle.conviction_defs.specs.Convictions.{Convicts, convicted}
use Rattle.audit_defs.specs.Audits.{Audited, audited_in, audited}
use Rattle.audit_defs.specs.Findings.{Findings, findings_of}
use Rattle.audit_defs.specs.Evidence.{convicted_in, pair_frame}

-- ---- of an audit

-- the process may have written the entry exactly where the test says so
abbrev pub WrittenIsTested : Type 0
WrittenIsTested = (s : Setting) (p : Process) (e : Entry) → IsTrue (is_written s p e) ↔ IsWritten s p e

-- What an audit speaks of: the kit's setting; the listed processes and no others; the claims that were handed to them and those that they
-- signed, and no others; and each of what they signed is valid.
pub record IsOfListed (kit : Kit) (listed : List ℕ) (a : Audited) : Type 0 where
  pub setting : a.family.setting ≡ setting_of kit
  pub listed_are : numbers a.family ≡ listed
  pub claims : (c : Claim) → Contains a.claims c
      ↔ (Contains (handed a.family) c ⊎ ((p : Process) × Contains (ends a.family) p × Contains p.signed c))
  pub valid : All (λ p. All (λ c. IsTrue (is_valid (setting_of kit) c)) p.signed) (ends a.family)

abbrev pub AuditIsOfListed : Type 0
AuditIsOfListed = (kit : Kit) (listed : List ℕ) (journals : List (List ℕ)) (a : Audited) → audited kit listed journals ≡ Ok a
    → IsOfListed kit listed a

-- where the family is honest, no listed process is convicted
abbrev pub NoneListedIsConvicted : Type 0
NoneListedIsConvicted = (kit : Kit) (listed : List ℕ) (journals : List (List ℕ)) (a : Audited) → IsStrictlyIncreasing listed
    → audited kit listed journals ≡ Ok a → Honest a.family → (q : ℕ) → Contains listed q → ¬ Contains (convicted a.family.setting a.claims) q

-- The family is honest exactly where no listed process is convicted and, of each slot on which a valid claim of a listed process was handed
-- over, that process itself has signed a statement: so whoever keeps the first claim of each slot need not keep what was said.
abbrev pub HonestByFirsts : Type 0
HonestByFirsts = (kit : Kit) (listed : List ℕ) (journals : List (List ℕ)) (a : Audited) → IsStrictlyIncreasing listed
    → audited kit listed journals ≡ Ok a → Honest a.family ↔ (((q : ℕ) → Contains listed q → ¬ Convicts a.family.setting a.claims q)
    × ((c : Claim) → Contains (handed a.family) c → IsTrue (is_valid a.family.setting c) → (p : Process) → Contains (ends a.family) p
    → p.me ≡ c.signer → (d : Claim) × Contains p.signed d × (slot_of d.statement ≡ slot_of c.statement)))

-- The auditor's headline: the first two answers of the findings come with the last two.
pub record FirstGiveLast (f : Findings) : Type 0 where
  pub agree : f.honest ≡ true → f.bounded ≡ true → f.agree ≡ true
  pub sound : f.honest ≡ true → f.bounded ≡ true → f.sound ≡ true

abbrev pub FindingsHeadline : Type 0
FindingsHeadline = (kit : Kit) (listed : List ℕ) (journals : List (List ℕ)) (a : Audited) → IsKit kit → IsStrictlyIncreasing listed
    → audited kit listed journals ≡ Ok a
    → FirstGiveLast (findings_of a)

-- ---- of what is read

-- the steps that take these entries, from a place on
abbrev pub takes_at : ℕ → ℕ → List Entry → List Step
takes_at j place [] = []
takes_at j place (e ∷ es) = Takes j place e ∷ takes_at j (place + length (record_bytes e)) es

-- records up to a closed gate are walked entry by entry, and what comes after that gate is not read
abbrev pub JournalIsWalked : Type 0
JournalIsWalked = (j place : ℕ) (es : List Entry) (gate : ℕ) (unread : List ℕ) → AllByRecursion IsEntry es → gate ≢ open_gate
    → steps_from (length (flat_map record_bytes es ++ gate ∷ unread)) j place (flat_map record_bytes es ++ gate ∷ unread)
    ≡ takes_at j place es

-- records up to an open gate after which no record is read are walked entry by entry, and the walk breaks at that gate
abbrev pub BreakIsMet : Type 0
BreakIsMet = (j place : ℕ) (es : List Entry) (behind : List ℕ) → AllByRecursion IsEntry es → record_at behind ≡ Err tt
    → steps_from (length (flat_map record_bytes es ++ open_gate ∷ behind)) j place (flat_map record_bytes es ++ open_gate ∷ behind)
    ≡ takes_at j place es ++ Breaks j (place + length (flat_map record_bytes es)) ∷ []

-- the entries of a process, in the order of the journals and in each of its gates
abbrev pub own_entries : ℕ → List Step → List Entry
own_entries q [] = []
own_entries q (Takes j place e ∷ steps) = if q == e.process then e ∷ own_entries q steps else own_entries q steps
own_entries q (Breaks j place ∷ steps) = own_entries q steps

-- the family that an audit finds: the turns of each process are its own entries, one after the other
abbrev pub FamilyIsOfEntries : Type 0
FamilyIsOfEntries = (s : Setting) (sources : List Source) (listed : List ℕ) (a : Audited) → IsStrictlyIncreasing listed
    → audited_in s sources listed ≡ Ok a
    → All (λ c. c.turns ≡ turns_from s (start s c.me c.batch_limit) (own_entries c.me (steps_of sources))) a.family.correct

-- ---- of evidence

-- The two claims of a conviction, as one frame, convict its process: who reads them needs the public lines of the kit, and nothing of the
-- journals.
abbrev pub EvidenceConvicts : Type 0
EvidenceConvicts = (s : Setting) (first second : Claim) → IsClaim first → IsClaim second → IsTrue (is_valid s first)
    → IsTrue (is_valid s second) → Conflicts first second → Contains (convicted_in s (pair_frame first second)) first.signer

-- Where all that was handed over is the own word of correct processes, and so are the claims of a frame, the frame convicts none of them.
abbrev pub EvidenceSparesCorrect : Type 0
EvidenceSparesCorrect = (f : Family) (bytes : List ℕ) (claims : List Claim) → frame_said bytes ≡ Claims claims
    → ((c : Claim) → Contains claims c → IsTrue (is_valid f.setting c) → (p : Process) → Contains (ends f) p → p.me ≡ c.signer
    → Contains (map (λ d. d.statement) p.signed) c.statement)
    → (q : ℕ) → Contains (numbers f) q → ¬ Contains (convicted_in f.setting bytes) q
