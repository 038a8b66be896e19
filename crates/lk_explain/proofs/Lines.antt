-- The line in which a place is, cut out of the text.
use Rattle.std.proofs.Common.{◌≡◌, ℕ, zero, suc, ◌+◌, ◌-◌, ◌<◌, ◌≤◌, min, not, false, List, [], ◌∷◌, ◌++◌, length, get_or, take, drop, reverse, sym, ap, ◌∙◌, subst, arith}
use Rattle.std.proofs.lemmas.Bool.Decides.{nat_tests}
use Rattle.std.proofs.lemmas.List.{take-append-drop, drop-append-le, length-drop, length-take-le, length-reverse, take_min, drop_min, get_or-take, get_or-drop, get_or-reverse}
use Rattle.std.proofs.lemmas.List.Sums.{prefix_len_stops, prefix_len-le-length}
use Rattle.std.proofs.lemmas.Str.{IsCharBoundary-after_ascii}
use Rattle.std.specs.List.{after_last, before_first, prefix_len, suffix_len, slice_range}
use Rattle.std.specs.Prelude.{IsUtf8, IsCharBoundary}
use Rattle.lk_explain.specs.Places.{is_line_feed, ends_line, line_of}

-- how many bytes of the line stand before a place that is within the text, and how many from it on
pub record IsWithinLine (text : List ℕ) (place back on : ℕ) : Type 0 where
  pub within : place ≤ length text
  pub back_is : back ≡ suffix_len (λ byte. not (is_line_feed byte)) (take place text)
  pub on_is : on ≡ prefix_len (λ byte. not (ends_line byte)) (drop place text)

pub within_line : (text bytes front rest : List ℕ) (at place back on : ℕ) → bytes ≡ text → place ≡ min at (length bytes) → front ≡ take place bytes → rest ≡ drop place bytes
    → back ≡ suffix_len (λ byte. not (is_line_feed byte)) front → on ≡ prefix_len (λ byte. not (ends_line byte)) rest → IsWithinLine text place back on
within_line text bytes front rest at place back on same is front_is rest_is back_is on_is = record {
  within = omega (arith, is, ap length same);
  back_is = back_is ∙ ap (suffix_len (λ byte. not (is_line_feed byte))) (front_is ∙ ap (take place) same);
  on_is = on_is ∙ ap (prefix_len (λ byte. not (ends_line byte))) (rest_is ∙ ap (drop place) same);
}

is_feed : (byte : ℕ) → not (is_line_feed byte) ≡ false → byte < 128
is_feed byte failed = grind (arith, nat_tests)

is_end : (byte : ℕ) → not (ends_line byte) ≡ false → byte < 128
is_end byte failed = grind (arith, nat_tests)

back_fits : (text : List ℕ) (place back on : ℕ) → IsWithinLine text place back on → back ≤ place
back_fits text place back on line =
    let front = take place text in
    let fits = prefix_len-le-length (λ byte. not (is_line_feed byte)) (reverse front) in
    omega (arith, line.back_is, line.within, fits, length-reverse front, length-take-le place text line.within)

on_fits : (text : List ℕ) (place back on : ℕ) → IsWithinLine text place back on → place + on ≤ length text
on_fits text place back on line =
    let fits = prefix_len-le-length (λ byte. not (ends_line byte)) (drop place text) in
    omega (arith, line.on_is, line.within, fits, length-drop place text)

-- before a line stands a line feed, unless it is the first
feed_before : (text : List ℕ) (place back on : ℕ) → IsWithinLine text place back on → 0 < place - back → get_or text (place - back - 1) 0 < 128
feed_before text place back on line later =
    let front : List ℕ = take place text in
    let long : length front ≡ place = length-take-le place text line.within in
    let stops : not (is_line_feed (get_or (reverse front) back 0)) ≡ false =
    subst (λ (n : ℕ). not (is_line_feed (get_or (reverse front) n 0)) ≡ false) (sym line.back_is)
    (prefix_len_stops (λ byte. not (is_line_feed byte)) (reverse front) 0 (omega (arith, line.back_is, long, length-reverse front, later))) in
    let there : get_or (reverse front) back 0 ≡ get_or text (place - back - 1) 0 =
    get_or-reverse front back 0 (omega arith)
    ∙ ap (λ (n : ℕ). get_or front n 0) (omega arith)
    ∙ get_or-take place text (place - back - 1) 0 (omega arith) in
    subst (λ (byte : ℕ). byte < 128) there (is_feed _ stops)

pub starts_char : (text : List ℕ) (place back on : ℕ) → IsUtf8 text → IsWithinLine text place back on → 0 < place - back → IsCharBoundary text (place - back)
starts_char text place back on utf8 line later =
    subst (λ (n : ℕ). IsCharBoundary text n) (omega arith)
    (IsCharBoundary-after_ascii text (place - back - 1) utf8 (omega (arith, line.within)) (feed_before text place back on line later))

-- behind a line stands what ends it, unless it is the last
end_behind : (text : List ℕ) (place back on : ℕ) → IsWithinLine text place back on → place + on < length text → get_or text (place + on) 0 < 128
end_behind text place back on line earlier =
    let rest : List ℕ = drop place text in
    let stops : not (ends_line (get_or rest on 0)) ≡ false =
    subst (λ (n : ℕ). not (ends_line (get_or rest n 0)) ≡ false) (sym line.on_is)
    (prefix_len_stops (λ byte. not (ends_line byte)) rest 0 (omega (arith, line.on_is, length-drop place text, earlier))) in
    subst (λ (byte : ℕ). byte < 128) (get_or-drop place text on 0) (is_end _ stops)

too_high : {byte : ℕ} → byte < 128 → 128 ≤ byte → ⊥
too_high low high = omega arith

pub ends_char : (text : List ℕ) (place back on : ℕ) → IsWithinLine text place back on → IsCharBoundary text (place + on)
ends_char text place back on line =
    (on_fits text place back on line, λ earlier high. absurd (too_high (end_behind text place back on line earlier) high))

take_past : (front rest : List ℕ) (k n : ℕ) → k ≡ length front + n → take k (front ++ rest) ≡ front ++ take n rest
take_past [] rest k n is = ap (λ (m : ℕ). take m rest) (omega arith)
take_past (byte ∷ front) rest zero n is = absurd (omega arith)
take_past (byte ∷ front) rest (suc k) n is = ap (λ z. byte ∷ z) (take_past front rest k n (omega arith))

-- what is cut out is the line
cut_out : (text : List ℕ) (place back on : ℕ) → IsWithinLine text place back on → slice_range text (place - back) (place + on) ≡ line_of text place
cut_out text place back on line =
    let front : List ℕ = take place text in
    let rest : List ℕ = drop place text in
    let long : length front ≡ place = length-take-le place text line.within in
    let fits : back ≤ place = back_fits text place back on line in
    let behind : drop (place - back) text ≡ drop (place - back) front ++ rest =
    ap (drop (place - back)) (sym (take-append-drop place text)) ∙ drop-append-le (place - back) front rest (omega arith) in
    let from_front : drop (place - back) front ≡ drop (length front - suffix_len (λ byte. not (is_line_feed byte)) front) front =
    ap (λ (n : ℕ). drop n front) (omega (arith, line.back_is, long)) in
    ap (take (place + on - (place - back))) behind
    ∙ take_past (drop (place - back) front) rest (place + on - (place - back)) on (omega (arith, length-drop (place - back) front, long, fits))
    ∙ ap (λ (z : List ℕ). z ++ take on rest) from_front
    ∙ ap (λ (n : ℕ). drop (length front - suffix_len (λ byte. not (is_line_feed byte)) front) front ++ take n rest) line.on_is

-- the line of what stands before a place and what stands behind it
abbrev lines : List ℕ → List ℕ → List ℕ
lines front rest = after_last is_line_feed front ++ before_first ends_line rest

-- a place behind the end counts as the end
pub line_cut_out : (text bytes : List ℕ) (at place back on : ℕ) → bytes ≡ text → place ≡ min at (length bytes) → IsWithinLine text place back on → slice_range text (place - back) (place + on) ≡ line_of text at
line_cut_out text bytes at place back on same at_bytes line =
    let is : place ≡ min at (length text) = at_bytes ∙ ap (λ (z : List ℕ). min at (length z)) same in
    cut_out text place back on line
    ∙ ap (λ (z : List ℕ). lines z (drop place text)) (ap (λ (n : ℕ). take n text) is ∙ take_min at text)
    ∙ ap (λ (z : List ℕ). lines (take at text) z) (ap (λ (n : ℕ). drop n text) is ∙ drop_min at text)
