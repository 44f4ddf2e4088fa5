-- What a line asks of a process.
use Rattle.std.proofs.Common.{◌≡◌, ℕ, List, [], ◌∷◌, Result, Ok, Err, ap, subst, sym, ◌∙◌}
use Rattle.std.specs.Prelude.{IfErr, IfOk, IsTrue}
use Rattle.std.specs.Str.{is_utf8}
use Rattle.journal_defs.specs.Entries.{Event}
use Rattle.node_defs.specs.Casts as casts
use Rattle.node_defs.specs.Nodes.{Take, Get, Word, tasks_of_line}
use Rattle.node_defs.specs.Scripts as plain
use Rattle.node_input.specs.Reads.{IsRange}
use Rattle.node_traces.specs.Service.{Asked, HeardBy}
use Rattle.node_input.specs.Texts.{Handed}
use Rattle.node_input.specs.Events as events
use Rattle.node_input.specs.Texts.{Said, Hand, Receive, Other, handed as handed_of, said as said_of}
use Rattle.node_snapping.specs.Hosts.{IsFromOther}

-- none is a frame
from-other : (me : ℕ) (event : Handed) → IsFromOther me (casts.handed (handed_of event))
from-other me (events.Submit payload) = tt
from-other me (events.Suspect q) = tt
from-other me (events.Join q) = tt
from-other me events.Renew = tt
from-other me events.Tick = tt

pub other-so : (me : ℕ) (event : Handed) (e : Event) → e ≡ handed_of event → IsFromOther me (casts.handed e)
other-so me event e is = subst (λ (d : Event). IsFromOther me (casts.handed d)) (sym is) (from-other me event)

pub hands : (me : ℕ) (line : List ℕ) (said : Said) (event : Handed) (e : Event) → said ≡ Hand event → e ≡ handed_of event
    → tasks_of_line line (plain.Of me (said_of said)) ≡ Take me e ∷ []
hands me line said event e is same = ap (λ (s : Said). tasks_of_line line (plain.Of me (said_of s))) is
    ∙ ap (λ (d : Event). Take me d ∷ []) (sym same)

pub receives : (me most : ℕ) (line : List ℕ) (said : Said) → said ≡ Receive most
    → tasks_of_line line (plain.Of me (said_of said)) ≡ Get me most 0 ∷ []
receives me most line said is = ap (λ (s : Said). tasks_of_line line (plain.Of me (said_of s))) is

pub asks-service : (me : ℕ) (line : List ℕ) (said : Said) → said ≡ Other → tasks_of_line line (plain.Of me
    (said_of said)) ≡ Word me line ∷ []
asks-service me line said is = ap (λ (s : Said). tasks_of_line line (plain.Of me (said_of s))) is

-- and a line for the service is text
pub is-text : (line : List ℕ) (said : Said) → said ≡ Other → IsRange line (said_of said) → IsTrue (is_utf8 line)
is-text line said is range = subst (λ (s : Said). IsRange line (said_of s)) is range

-- ---- a line of which the service is not told

-- what holds of a history that the service has
pub unheard-ok : {A E V : Type 0} (heard : V → List Asked → Type 0) (service : V) (h : List Asked) → heard service h → (r : Result A E)
    (P : A → List Asked → Type 0) → IfOk r (λ x. P x h) → IfOk r (λ x. HeardBy heard service (P x))
unheard-ok heard service h has (Ok x) P is = record { history = h; has = has; holds = is }
unheard-ok heard service h has (Err why) P is = tt

pub unheard-err : {A E V : Type 0} (heard : V → List Asked → Type 0) (service : V) (h : List Asked) → heard service h → (r : Result A E)
    (P : E → List Asked → Type 0) → IfErr r (λ why. P why h) → IfErr r (λ why. HeardBy heard service (P why))
unheard-err heard service h has (Ok x) P is = tt
unheard-err heard service h has (Err why) P is = record { history = h; has = has; holds = is }
