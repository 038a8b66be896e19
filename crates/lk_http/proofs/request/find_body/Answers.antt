use Rattle.std.proofs.Common.{◌≡◌, List, ℕ, length, min, take, ap, ◌∙◌, arith}
use Rattle.std.proofs.lemmas.List.{take_min}
use Rattle.lk_http.proofs.RequestSteps.{found_never, found_none, found_place, found_refused}
use Rattle.lk_http.proofs.request.find_body.Goals as goal
use Rattle.lk_http.specs.Verdicts.{front}

same : (bytes : List ℕ) (n : ℕ) → n ≡ min (length bytes) 8_192 → take n bytes ≡ front bytes
same bytes n is = let swap : n ≡ min 8_192 (length bytes) = omega (arith, is) in ap (λ k. take k bytes) swap ∙ take_min 8_192 bytes

pub returns-in-Ok-Partial : goal.returns-in-Ok-Partial
returns-in-Ok-Partial c =
    found_none c.args.bytes.now _ (same c.args.bytes.now c.min.result c.min.ensures) c.may_come.result (rw c.in-Ok-Partial.field-0-is at c.in-Ok-Partial.ensures.partial) (rw c.in-Ok-Partial.field-0-is at c.in-Ok-Partial.ensures.unfinished) c.may_come.ensures

pub returns-in-Err : goal.returns-in-Err
returns-in-Err c =
    found_never c.args.bytes.now _ (same c.args.bytes.now c.min.result c.min.ensures) _ c.in-Err.field-0 c.requires c.in-Err.ensures.invalid c.in-Err.ensures.too_many

pub returns-in-Ok : goal.returns-in-Ok
returns-in-Ok c =
    found_place c.args.bytes.now _ (same c.args.bytes.now c.min.result c.min.ensures) _ c.in-Ok-Complete.head c.in-Ok.place c.place_of.result (rw c.in-Ok-Complete.field-0-is at c.in-Ok-Complete.ensures.complete) c.place_of.ensures c.in-Ok.is

pub returns-in-Err-place_of : goal.returns-in-Err-place_of
returns-in-Err-place_of c =
    found_refused c.args.bytes.now _ (same c.args.bytes.now c.min.result c.min.ensures) _ c.in-Ok-Complete.head c.in-Err-place_of.why c.place_of.result (rw c.in-Ok-Complete.field-0-is at c.in-Ok-Complete.ensures.complete) c.place_of.ensures c.in-Err-place_of.is
