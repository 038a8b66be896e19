-- A head of n bytes has fewer than n / 3 fields, so httparse has room for all of them.
use Rattle.std.proofs.Common.{◌≡◌, ◌≢◌, ℕ, ◌+◌, ◌*◌, ◌<◌, ◌≤◌, List, [], ◌∷◌, ◌++◌, length, Result, Err, refl, ap, arith, length-append}
use Rattle.std.specs.Prelude.{All}
use Rattle.std.specs.List.{flat_map}
use Rattle.std.proofs.lemmas.List.Elements.{All-head, All-tail}
use Rattle.httparse.specs.Grammar.{LineEnd, crlf, lf, print_end, Field, IsField, print_field, print_section, print_blank, RequestHead, IsRequestHead, print_request, print_version, ResponseHead, IsResponseHead, print_response, print_reason}
use Rattle.httparse.specs.Spans.{RequestExceeds, ResponseExceeds}
use Rattle.httparse.specs.declared.Error.{Error}
use Rattle.httparse.specs.declared.Error.TheVariants.{TooManyHeaders, HeaderName, HeaderValue, NewLine, Status, Token, Version}

end_some : (e : LineEnd) → 1 ≤ length (print_end e)
end_some crlf = omega arith
end_some lf = omega arith

field_some : (f : Field) → IsField f → 3 ≤ length (print_field f)
field_some f h = omega (arith, h.name.0, end_some f.end, length-append (f.name ++ 58 ∷ f.raw) (print_end f.end), length-append f.name (58 ∷ f.raw))

fields_some : (fs : List Field) → All IsField fs → 3 * length fs ≤ length (flat_map print_field fs)
fields_some [] h = omega arith
fields_some (f ∷ fs) h = omega (arith, field_some f (All-head IsField f fs h), fields_some fs (All-tail IsField f fs h), length-append (print_field f) (flat_map print_field fs))

section_some : (front : List ℕ) (fs : List Field) (last : LineEnd) → All IsField fs → 1 ≤ length front → 3 * length fs + 2 ≤ length (front ++ print_section fs last)
section_some front fs last fields some = omega (arith, some, fields_some fs fields, end_some last, length-append front (print_section fs last), length-append (flat_map print_field fs) (print_end last))

request_line : (h : RequestHead) → 1 ≤ length (print_blank h.blank ++ h.method ++ 32 ∷ h.target ++ 32 ∷ print_version h.minor ++ print_end h.line_end)
request_line h = omega (arith, end_some h.line_end, length-append (print_blank h.blank ++ h.method ++ 32 ∷ h.target ++ 32 ∷ print_version h.minor) (print_end h.line_end))

pub request_some : (h : RequestHead) → IsRequestHead h → 3 * length h.fields + 2 ≤ length (print_request h)
unfolding print_request
request_some h k = section_some _ h.fields h.last k.fields (request_line h)

status_line : (h : ResponseHead) → 1 ≤ length (print_blank h.blank ++ print_version h.minor ++ 32 ∷ h.digits ++ print_reason h.reason ++ print_end h.line_end)
status_line h = omega (arith, end_some h.line_end, length-append (print_blank h.blank ++ print_version h.minor ++ 32 ∷ h.digits ++ print_reason h.reason) (print_end h.line_end))

pub reply_some : (h : ResponseHead) → IsResponseHead h → 3 * length h.fields + 2 ≤ length (print_response h)
unfolding print_response
reply_some h k = section_some _ h.fields h.last k.fields (status_line h)

-- an error that isn't for want of room is for the bytes
pub never_by : {P A : Type 0} (e : Error) → (e ≢ TooManyHeaders → P) → (◌≡◌ {A = Result A Error} (Err e) (Err TooManyHeaders) → ⊥) → P
never_by TooManyHeaders h k = absurd (k refl)
never_by HeaderName h k = h (λ e. cc)
never_by HeaderValue h k = h (λ e. cc)
never_by NewLine h k = h (λ e. cc)
never_by Status h k = h (λ e. cc)
never_by Token h k = h (λ e. cc)
never_by Version h k = h (λ e. cc)

-- a first part of the bytes, with an end of line behind it, doesn't have that many fields
fits_room : (bytes front rest whole : List ℕ) (fields room : ℕ) → length bytes < 3 * room → bytes ≡ front ++ rest → front ++ print_end lf ≡ whole ++ [] → 3 * fields + 2 ≤ length whole → room < fields → ⊥
fits_room bytes front rest whole fields room few is parts size over =
    omega (arith, few, size, over, ap length is, ap length parts, length-append front rest, length-append front (print_end lf), length-append whole [])

pub request_fits : (bytes : List ℕ) (room : ℕ) → length bytes < 3 * room → RequestExceeds room bytes → ⊥
request_fits bytes room few x = fits_room bytes x.0 x.1 (print_request x.3) (length x.3.fields) room few x.2 x.4.1 (request_some x.3 x.4.0) x.5

pub reply_fits : (bytes : List ℕ) (room : ℕ) → length bytes < 3 * room → ResponseExceeds room bytes → ⊥
reply_fits bytes room few x = fits_room bytes x.0 x.1 (print_response x.3) (length x.3.fields) room few x.2 x.4.1 (reply_some x.3 x.4.0) x.5
