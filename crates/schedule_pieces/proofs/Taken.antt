-- What a header or an event leaves is the end of the bytes.
use Rattle.std.proofs.Common.{◌≡◌, ℕ, ◌-◌, ◌≤◌, List, ◌++◌, length, drop, Ok, sym, subst, ◌∙◌, ap, arith}
use Rattle.std.proofs.lemmas.List.{length-append}
use Rattle.std.proofs.lemmas.List.Prefix.{end_rest}
use Rattle.byte_defs.proofs.Fields.{IsBytes, Takes}
use Rattle.replay_defs.specs.Schedules.{Listed, ScheduleEvent, Header, event_bytes, header_bytes}
use Rattle.replay_defs.specs.Reading.{Step, Roles, roles_of, header_at, event_at}
use Rattle.schedule_laws.proofs.Events.{event_takes}
use Rattle.schedule_laws.proofs.Headers.{header_takes}

pub record IsEnd (bytes rest : List ℕ) : Type 0 where
  pub within : length rest ≤ length bytes
  pub is : drop (length bytes - length rest) bytes ≡ rest

end_of : (bytes front rest : List ℕ) → bytes ≡ front ++ rest → IsEnd bytes rest
end_of bytes front rest parts = record {
  within = omega (arith, length-append front rest, ap (λ (t : List ℕ). length t) parts);
  is = end_rest bytes rest front parts;
}

pub end_of_event : (roles : Roles) (ls : List Listed) (left : ℕ) (bytes : List ℕ) (e : ScheduleEvent) (rest : List ℕ) → roles ≡ roles_of ls
    → IsBytes bytes → event_at roles left bytes ≡ Ok (e, rest) → IsEnd bytes rest
end_of_event roles ls left bytes e rest known fits read =
    let same : event_at (roles_of ls) left bytes ≡ Ok (e, rest) = subst (λ (r : Roles). event_at r left bytes ≡ Ok (e, rest)) known read in
    end_of bytes (event_bytes e) rest (event_takes ls left bytes (e, rest) fits same).0.parts

pub end_of_header : (bytes : List ℕ) (h : Header) (rest : List ℕ) → IsBytes bytes → header_at bytes ≡ Ok (h, rest) → IsEnd bytes rest
end_of_header bytes h rest fits read = end_of bytes (header_bytes h) rest (header_takes bytes (h, rest) fits read).0.parts
