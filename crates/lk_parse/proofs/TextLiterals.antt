-- The text literal in front of a text.
use Rattle.std.proofs.Common.{◌≡◌, ℕ, ◌+◌, ◌-◌, ◌<◌, ◌≤◌, List, [], ◌∷◌, ◌++◌, length, take, drop, get_or, Some, refl, sym, ap, subst, ◌∙◌, append_assoc, arith}
use Rattle.std.specs.Str.{IsUtf8, IsCharBoundary}
use Rattle.std.proofs.Math.Seq.{get_or-append_seam, drop-append-add}
use Rattle.std.proofs.lemmas.List.{take_at, take_rest, length-append, length-take-le}
use Rattle.std.proofs.lemmas.List.Elements.{All-cons, All-nil}
use Rattle.std.proofs.lemmas.Str.{IsUtf8-append, IsUtf8-from_ascii, IsUtf8-take, IsUtf8-drop, IsCharBoundary-before_ascii, IsCharBoundary-after_ascii}
use Rattle.std.proofs.lemmas.Str.Ascii.{IsAscii-from_all}
use Rattle.lk_ast.specs.declared.token.TokenKind.TheVariants as kind
use Rattle.lk_parse.specs.Pieces.{IsContent, IsPiece, escaped}
use Rattle.lk_parse.specs.Scanner.{start_of, Begins, Closes, NeverCloses, Takes}
use Rattle.lk_parse.specs.Tokens.{IsLexeme, IsTaken, IsStuck}
use Rattle.lk_parse.specs.declared.start.Start.{Start}
use Rattle.lk_parse.specs.declared.start.Start.TheVariants.{Text}
use Rattle.lk_parse.proofs.Content.{quote_not_plain, backslash_not_plain, escaped_small}
use Rattle.lk_parse.proofs.Lexemes.{extent_at}
use Rattle.lk_parse.proofs.Runs.{is_quote}
use Rattle.lk_parse.proofs.Shapes.{Shape, shape_of, piece_nonempty}

-- ---- no closed content begins another
pub content_same : (w v m n x y : List ℕ) → IsContent w m → IsContent v n → w ++ 34 ∷ x ≡ v ++ 34 ∷ y → (w ≡ v) × (m ≡ n)
content_same w v m n x y IsContent.nothing IsContent.nothing e = (refl, refl)
content_same w v m n x y IsContent.nothing (IsContent.plain c h k) e = let is : c ≡ 34 = cc in absurd (quote_not_plain c h is)
content_same w v m n x y IsContent.nothing (IsContent.escape c d h k) e = let is : ◌≡◌ {A = ℕ} 34 92 = cc in absurd (omega (arith, is))
content_same w v m n x y (IsContent.plain c h k) IsContent.nothing e = let is : c ≡ 34 = cc in absurd (quote_not_plain c h is)
content_same w v m n x y (IsContent.plain c {bytes = a} {meant = b} h k) (IsContent.plain d {bytes = f} {meant = g} i j) e =
    let same : c ≡ d = cc in
    let more = content_same a f b g x y k j cc in
    let bytes = more.0 in let meant = more.1 in (cc, cc)
content_same w v m n x y (IsContent.plain c h k) (IsContent.escape d f i j) e = let is : c ≡ 92 = cc in absurd (backslash_not_plain c h is)
content_same w v m n x y (IsContent.escape c d h k) IsContent.nothing e = let is : ◌≡◌ {A = ℕ} 92 34 = cc in absurd (omega (arith, is))
content_same w v m n x y (IsContent.escape c d h k) (IsContent.plain f i j) e = let is : f ≡ 92 = cc in absurd (backslash_not_plain f i is)
content_same w v m n x y (IsContent.escape c d {bytes = a} {meant = b} h k) (IsContent.escape f g {bytes = p} {meant = q} i j) e =
    let same : c ≡ f = cc in
    let more = content_same a p b q x y k j cc in
    let both : Some d ≡ Some g = sym h ∙ ap escaped same ∙ i in
    let bytes = more.0 in let meant = more.1 in (cc, cc)

-- ---- the meaning of UTF-8 is UTF-8

-- what stands before an ASCII byte and behind it
pub ascii_apart : (front rest : List ℕ) (c : ℕ) → c < 128 → IsUtf8 (front ++ c ∷ rest) → IsUtf8 front × IsUtf8 rest
ascii_apart front rest c small utf8 =
    let bytes = front ++ c ∷ rest in
    let fits : length front < length bytes = omega (arith, length-append front (c ∷ rest)) in
    let here : get_or bytes (length front) 0 < 128 = rw get_or-append_seam small in
    let before = IsUtf8-take bytes (length front) utf8 (IsCharBoundary-before_ascii bytes (length front) fits here) in
    let behind = IsUtf8-drop bytes (length front + 1) utf8 (IsCharBoundary-after_ascii bytes (length front) utf8 fits here) in
    (subst IsUtf8 (take_at front (c ∷ rest) (length front) refl) before, subst IsUtf8 (drop-append-add front (c ∷ rest) 1) behind)

pub ascii_one : (c : ℕ) → c < 128 → IsUtf8 (c ∷ [])
ascii_one c small = IsUtf8-from_ascii (c ∷ []) (IsAscii-from_all (c ∷ []) (All-cons (λ b. b < 128) c [] small (All-nil (λ b. b < 128))))

-- an escape is two ASCII bytes, and means one
escape_utf8 : (front rest : List ℕ) (c d : ℕ) → escaped c ≡ Some d → IsUtf8 (front ++ 92 ∷ c ∷ rest) → IsUtf8 ((front ++ d ∷ []) ++ rest)
escape_utf8 front rest c d means utf8 =
    let small = escaped_small c d means in
    let apart = ascii_apart front (c ∷ rest) 92 (omega arith) utf8 in
    let rest_utf8 = (ascii_apart [] rest c small.0 apart.1).1 in
    IsUtf8-append (front ++ d ∷ []) rest (IsUtf8-append front (d ∷ []) apart.0 (ascii_one d small.1)) rest_utf8

pub meaning_utf8 : (front w m rest : List ℕ) → IsContent w m → IsUtf8 (front ++ (w ++ rest)) → IsUtf8 (front ++ (m ++ rest))
meaning_utf8 front w m rest IsContent.nothing utf8 = utf8
meaning_utf8 front w m rest (IsContent.plain c {bytes = v} {meant = n} h k) utf8 =
    subst IsUtf8 (append_assoc front (c ∷ []) (n ++ rest)) (meaning_utf8 (front ++ c ∷ []) v n rest k (subst IsUtf8 (sym (append_assoc front (c ∷ []) (v ++ rest))) utf8))
meaning_utf8 front w m rest (IsContent.escape c d {bytes = v} {meant = n} h k) utf8 =
    subst IsUtf8 (append_assoc front (d ∷ []) (n ++ rest)) (meaning_utf8 (front ++ d ∷ []) v n rest k (escape_utf8 front (v ++ rest) c d h utf8))

-- ---- the literal

-- a literal as content between quotes, and what follows
split : (c : ℕ) (bytes m : List ℕ) (len : ℕ) → c ≡ 34 → Closes bytes len m → c ∷ bytes ≡ (34 ∷ (take len bytes ++ 34 ∷ [])) ++ drop (len + 1) bytes
split c bytes m len is closes = ap (λ (d : ℕ). d ∷ bytes) is ∙ ap (λ (z : List ℕ). 34 ∷ z) (closes.quote ∙ sym (append_assoc (take len bytes) (34 ∷ []) (drop (len + 1) bytes)))

literal_length : (bytes m : List ℕ) (len : ℕ) → Closes bytes len m → length (34 ∷ (take len bytes ++ 34 ∷ [])) ≡ len + 2
literal_length bytes m len closes = let fits = closes.fits in let front = length-take-le len bytes (omega arith) in omega (arith, length-append (take len bytes) (34 ∷ []), front)

pub literal_taken : (w m rest : List ℕ) → IsContent w m → IsTaken (34 ∷ (w ++ 34 ∷ [])) rest (Some (kind.Text m))
literal_taken w m rest h = record { piece = IsPiece.text w m h; longest = longest }
  where
    longest : (u v : List ℕ) → (34 ∷ (w ++ 34 ∷ [])) ++ rest ≡ u ++ v → IsLexeme u → length u ≤ length (34 ∷ (w ++ 34 ∷ []))
    longest [] v e g = omega arith
    longest (d ∷ u) v e g =
        let same : d ≡ 34 = cc in
        let tail : (w ++ 34 ∷ []) ++ rest ≡ u ++ v = cc in
        let other = extent_at Text d u (ap start_of same) g in
        let both : w ++ 34 ∷ rest ≡ other.0 ++ 34 ∷ v = sym (append_assoc w (34 ∷ []) rest) ∙ tail ∙ ap (λ (z : List ℕ). z ++ v) other.2 ∙ append_assoc other.0 (34 ∷ []) v in
        let equal = content_same w other.0 m other.1 rest v h other.3 both in
        omega (arith, ap length other.2, ap length equal.0, length-append w (34 ∷ []), length-append other.0 (34 ∷ []))

pub literal_takes : (text bytes m : List ℕ) (len : ℕ) → IsUtf8 text → Begins text Text → bytes ≡ drop 1 text → Closes bytes len m → Takes text (record { len = len + 2; kind = Some (kind.Text m) })
literal_takes [] bytes m len utf8 b e closes = let none = b.some in absurd (omega arith)
literal_takes (c ∷ rest) bytes m len utf8 b e closes =
    let text = c ∷ rest in
    let here : Closes rest len m = rw e at closes in
    let whole = split c rest m len (is_quote c b.is) here in
    let two = literal_length rest m len here in
    let front : take (len + 2) text ≡ 34 ∷ (take len rest ++ 34 ∷ []) = ap (take (len + 2)) whole ∙ take_at (34 ∷ (take len rest ++ 34 ∷ [])) (drop (len + 1) rest) (len + 2) two in
    let fits : len + 2 ≤ length text = let inside = here.fits in omega arith in
    let last : get_or text (len + 1) 0 ≡ 34 = quote_last text (take len rest) (drop (len + 1) rest) (len + 1) whole (let front_fits = length-take-le len rest (let inside = here.fits in omega arith) in omega (arith, front_fits)) in
    record {
      some = omega arith;
      fits = fits;
      boundary = subst (IsCharBoundary text) (let next : len + 1 + 1 ≡ len + 2 = omega arith in next) (IsCharBoundary-after_ascii text (len + 1) utf8 (omega arith) (omega (arith, last)));
      taken = subst (λ (w : List ℕ). IsTaken w (drop (len + 2) text) (Some (kind.Text m))) (sym front) (literal_taken (take len rest) m (drop (len + 2) text) here.content);
    }
  where
    quote_last : (text w behind : List ℕ) (i : ℕ) → text ≡ (34 ∷ (w ++ 34 ∷ [])) ++ behind → i ≡ length w + 1 → get_or text i 0 ≡ 34
    quote_last text w behind i e is =
        let seam : text ≡ (34 ∷ w) ++ 34 ∷ behind = e ∙ ap (λ (z : List ℕ). 34 ∷ z) (append_assoc w (34 ∷ []) behind) in
        let place : i ≡ length (34 ∷ w) = omega arith in
        ap (λ (z : List ℕ). get_or z i 0) seam ∙ ap (λ (n : ℕ). get_or ((34 ∷ w) ++ 34 ∷ behind) n 0) place ∙ get_or-append_seam (34 ∷ w) 34 behind 0

pub literal_utf8 : (text bytes m : List ℕ) (len : ℕ) → IsUtf8 text → Begins text Text → bytes ≡ drop 1 text → Closes bytes len m → IsUtf8 m
literal_utf8 [] bytes m len utf8 b e closes = let none = b.some in absurd (omega arith)
literal_utf8 (c ∷ rest) bytes m len utf8 b e closes =
    let here : Closes rest len m = rw e at closes in
    let quoted : IsUtf8 (34 ∷ rest) = subst (λ (d : ℕ). IsUtf8 (d ∷ rest)) (is_quote c b.is) utf8 in
    let whole : IsUtf8 ((34 ∷ []) ++ (take len rest ++ 34 ∷ drop (len + 1) rest)) = subst (λ (z : List ℕ). IsUtf8 (34 ∷ z)) here.quote quoted in
    let meant = meaning_utf8 (34 ∷ []) (take len rest) m (34 ∷ drop (len + 1) rest) here.content whole in
    let unquoted = (ascii_apart [] (m ++ 34 ∷ drop (len + 1) rest) 34 (omega arith) meant).1 in
    (ascii_apart m (drop (len + 1) rest) 34 (omega arith) unquoted).0

pub literal_stuck : (text bytes : List ℕ) → Begins text Text → bytes ≡ drop 1 text → NeverCloses bytes → IsStuck text
literal_stuck text bytes b e never [] rest x g t = piece_nonempty x t.piece
literal_stuck [] bytes b e never (d ∷ u) rest x g t = absurd cc
literal_stuck (c ∷ behind) bytes b e never (d ∷ u) rest x g t =
    let same : d ≡ c = cc in
    let tail : behind ≡ u ++ rest = cc in
    let shape = subst (λ (s : Start). Shape s d u x) (ap start_of same ∙ b.is) (shape_of d u x t.piece) in
    never shape.0 shape.1 rest (e ∙ tail ∙ ap (λ (z : List ℕ). z ++ rest) shape.3 ∙ append_assoc shape.0 (34 ∷ []) rest) shape.4

-- what a slice behind the first byte holds
pub behind_first : (bytes text : List ℕ) → bytes ≡ text → take (length bytes - 1) (drop 1 bytes) ≡ drop 1 text
behind_first bytes text e = take_rest bytes 1 ∙ ap (drop 1) e

pub closed_same : (w v m n : List ℕ) → IsContent w m → IsContent v n → w ++ 34 ∷ [] ≡ v ++ 34 ∷ [] → m ≡ n
closed_same w v m n h k e = (content_same w v m n [] [] h k e).1
