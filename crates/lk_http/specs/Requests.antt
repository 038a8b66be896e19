-- Requests: how they are judged by their heads, and the verdict on their bytes.
use Rattle.std.specs.Prelude.{ℕ, ◌==◌, Bool, true, false, not, List, [], ◌∷◌, map, codes, bytes_eq, Result, Ok, Err, if◌then◌else◌}
use Rattle.httparse.specs.Grammar.{RequestHead, ReadsRequest, MayBecomeRequest, print_request}
use Rattle.httparse.specs.Spans.{name_and_value}
use Rattle.lk_http.specs.Fields.{has_some, length_by, values_in}
use Rattle.lk_http.specs.Verdicts.{Kind}
use Rattle.lk_http.specs.declared.fault.LengthFault.{LengthFault}
use Rattle.lk_http.specs.declared.fault.LengthFault.TheVariants.{Missing, Malformed, Large}
use Rattle.lk_http.specs.declared.refusal.HttpRefusal.{HttpRefusal}
use Rattle.lk_http.specs.declared.refusal.HttpRefusal.TheVariants as refusals
use Rattle.lk_http.specs.declared.verdict.Fed.{Fed}
use Rattle.lk_http.specs.declared.verdict.Fed.TheVariants as fed

-- of the fields Host there is one, or none in HTTP/1.0 (RFC 9112, section 3.2)
abbrev pub are_hosts : ℕ → List (List ℕ) → Bool
are_hosts minor [] = minor == 0
are_hosts minor (host ∷ []) = true
are_hosts minor (host ∷ other ∷ more) = false

-- why a request is refused for what its head says of the length of its body
abbrev pub refusal_of : LengthFault → HttpRefusal
refusal_of Missing = refusals.LengthRequired
refusal_of Malformed = refusals.BadRequest
refusal_of Large = refusals.TooLarge

abbrev pub length_or_refusal : Result ℕ LengthFault → Result ℕ HttpRefusal
length_or_refusal (Ok n) = Ok n
length_or_refusal (Err fault) = Err (refusal_of fault)

-- How many bytes the body of a request has, or the first reason why it is refused (RFC 9112, sections 3.2, 6.1 and 6.3): of a method,
-- a target, a minor version, and fields as names with their values.
abbrev pub judged_by : List ℕ → List ℕ → ℕ → List (List ℕ × List ℕ) → Result ℕ HttpRefusal
judged_by method target minor fields =
    if not (are_hosts minor (values_in (codes "host") fields)) then Err refusals.BadRequest
    else if not (bytes_eq target (codes "/links")) then Err refusals.NotFound
    else if not (bytes_eq method (codes "POST")) then Err refusals.NotAllowed
    else if has_some (values_in (codes "transfer-encoding") fields) then Err refusals.NotImplemented
    else length_or_refusal (length_by (values_in (codes "content-length") fields))

-- the same of a head
abbrev pub judged : RequestHead → Result ℕ HttpRefusal
judged h = judged_by h.method h.target h.minor (map name_and_value h.fields)

-- requests, as they are read
abbrev pub requests : Kind Fed HttpRefusal
requests = record {
  Head = RequestHead;
  Reads = ReadsRequest;
  text = print_request;
  fields = λ h. h.fields;
  MayBecome = MayBecomeRequest;
  judged = judged;
  more = fed.More;
  done = λ h body. fed.Done body;
  refused = λ why. fed.Refused why;
  bad = refusals.BadRequest;
  too_large = refusals.HeadTooLarge;
}
