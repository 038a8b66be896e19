-- A text is read in one way.
use Rattle.std.proofs.Common.{◌≡◌, ℕ, ◌+◌, ◌<◌, ◌≤◌, List, [], ◌∷◌, ◌++◌, length, take, drop, Option, Some, None, refl, sym, ap, subst, ◌∙◌, inl, pos, arith}
use Rattle.std.specs.Prelude.{encode_utf8}
use Rattle.std.proofs.lemmas.List.{take_at, drop_at, length-append}
use Rattle.std.proofs.lemmas.Str.{encode_same, length-encode, len_utf8_bounds}
use Rattle.lk_ast.specs.declared.place.Span.{Span}
use Rattle.lk_ast.specs.declared.token.Token.{Token}
use Rattle.lk_ast.specs.declared.token.TokenKind.{TokenKind}
use Rattle.lk_ast.specs.declared.token.TokenKind.TheVariants as kind
use Rattle.lk_parse.specs.Pieces.{IsPiece}
use Rattle.lk_parse.specs.Scanner.{start_of}
use Rattle.lk_parse.specs.Tokens.{IsTaken, IsStuck, IsBadToken, Reads, token_at, LieBetween}
use Rattle.lk_parse.specs.declared.start.Start.{Start}
use Rattle.lk_parse.specs.declared.start.Start.TheVariants.{White, Comment, Word, Tag, Int, Text, Sign}
use Rattle.lk_parse.proofs.Digits.{integer_same}
use Rattle.lk_parse.proofs.Shapes.{Shape, shape_of, piece_nonempty}
use Rattle.lk_parse.proofs.TextLiterals.{closed_same}

-- ---- a piece is one token, or none

shape_same : (start : Start) (c : ℕ) (w : List ℕ) (x y : Option TokenKind) → Shape start c w x → Shape start c w y → x ≡ y
shape_same White c w x y h k = h.0 ∙ sym k.0
shape_same Comment c w x y h k = h.0 ∙ sym k.0
shape_same Word c w x y h k = h.0 ∙ sym k.0
shape_same Tag c w x y h k = h.0 ∙ sym k.0
shape_same Int c w x y h k = h.1 ∙ ap (λ (n : ℕ). Some (kind.Int (pos n))) (integer_same (c ∷ w) h.0 k.0 h.2 k.2) ∙ sym k.1
shape_same Text c w x y h k = h.2 ∙ ap (λ (m : List ℕ). Some (kind.Text m)) (closed_same h.0 k.0 h.1 k.1 h.4 k.4 (sym h.3 ∙ k.3)) ∙ sym k.2
shape_same Sign c w x y h k = h.0 ∙ sym k.0

piece_same : (w : List ℕ) (x y : Option TokenKind) → IsPiece w x → IsPiece w y → x ≡ y
piece_same [] x y h k = absurd (piece_nonempty x h)
piece_same (c ∷ w) x y h k = shape_same (start_of c) c w x y (shape_of c w x h) (shape_of c w y k)

same_front : (a b c d : List ℕ) → a ++ b ≡ c ++ d → length a ≡ length c → a ≡ c
same_front a b c d e len = sym (take_at a b (length a) refl) ∙ ap (take (length a)) e ∙ take_at c d (length a) (sym len)

same_back : (a b c d : List ℕ) → a ++ b ≡ c ++ d → length a ≡ length c → b ≡ d
same_back a b c d e len = sym (drop_at a b (length a) refl) ∙ ap (drop (length a)) e ∙ drop_at c d (length a) (sym len)

-- one piece stands in front
pub record SameTaken (w v rest others : List ℕ) (x y : Option TokenKind) : Type 0 where
  pub front : w ≡ v
  pub back : rest ≡ others
  pub kind : x ≡ y

pub taken_same : (w rest v others : List ℕ) (x y : Option TokenKind) → IsTaken w rest x → IsTaken v others y → w ++ rest ≡ v ++ others → SameTaken w v rest others x y
taken_same w rest v others x y t s e =
    let most = t.longest v others e (inl (y, s.piece)) in
    let least = s.longest w rest (sym e) (inl (x, t.piece)) in
    let len : length w ≡ length v = omega arith in
    let front = same_front w rest v others e len in
    record { front = front; back = same_back w rest v others e len; kind = piece_same v x y (subst (λ (u : List ℕ). IsPiece u x) front t.piece) s.piece }

pub taken_nonempty : (w rest : List ℕ) (x : Option TokenKind) → IsTaken w rest x → 0 < length w
taken_nonempty [] rest x t = absurd (piece_nonempty x t.piece)
taken_nonempty (c ∷ w) rest x t = omega arith

-- ---- readings that stop where nothing more can be read

-- no piece stands in front, be it at the end or where none begins
end_stuck : IsStuck []
end_stuck [] rest x e t = piece_nonempty x t.piece
end_stuck (c ∷ w) rest x e t = absurd cc

pub record SameReading (ts us : List Token) (left others : List ℕ) : Type 0 where
  pub tokens : ts ≡ us
  pub behind : left ≡ others

reads_same : {at : ℕ} {text : List ℕ} {ts : List Token} {left : List ℕ} → Reads at text ts left → (other : List ℕ) (us : List Token) (others : List ℕ) → text ≡ other → IsStuck left → IsStuck others → Reads at other us others → SameReading ts us left others
reads_same (Reads.nothing at text) other us others e stuck stuck_too (Reads.nothing _ _) = record { tokens = refl; behind = e }
reads_same (Reads.nothing at text) other us others e stuck stuck_too (Reads.piece _ {w = v} {rest = more} {kind = y} s d) = absurd (stuck v more y e s)
reads_same (Reads.piece at {w = w} {rest = rest} {kind = x} t d) other us others e stuck stuck_too (Reads.nothing _ _) = absurd (stuck_too w rest x (sym e) t)
reads_same (Reads.piece at {w = w} {rest = rest} {left = left} {kind = x} {tokens = ts} t d) other us others e stuck stuck_too (Reads.piece _ {w = v} {rest = more} {kind = y} {tokens = vs} s f) =
    let same = taken_same w rest v more x y t s e in
    let len : length v ≡ length w = sym (ap length same.front) in
    let more_same = reads_same d more vs others same.back stuck stuck_too (subst (λ (n : ℕ). Reads (at + n) more vs others) len f) in
    record {
      tokens = ap (λ (n : ℕ). token_at at n x ++ ts) (sym len) ∙ ap (λ (z : Option TokenKind). token_at at (length v) z ++ ts) same.kind ∙ ap (λ (us : List Token). token_at at (length v) y ++ us) more_same.tokens;
      behind = more_same.behind;
    }

pub tokens_same : (text : List ℕ) (ts us : List Token) → Reads 0 text ts [] → Reads 0 text us [] → ts ≡ us
tokens_same text ts us d f = (reads_same d text us [] refl end_stuck end_stuck f).tokens

-- a text that has tokens has no place where none begins
pub no_bad_place : (text left : List ℕ) (ts us : List Token) → Reads 0 text ts [] → Reads 0 text us left → IsStuck left → left ≡ []
no_bad_place text left ts us d f stuck = sym (reads_same d text us left refl end_stuck stuck f).behind

-- ---- where tokens lie

lie_later : (from at to : ℕ) (ts : List Token) → from ≤ at → LieBetween at ts to → LieBetween from ts to
lie_later from at to [] le h = omega (arith, h)
lie_later from at to (t ∷ ts) le h = (omega (arith, h.0), h.1, h.2)

lie_more : (at len to : ℕ) (x : Option TokenKind) (ts : List Token) → 0 < len → LieBetween (at + len) ts to → LieBetween at (token_at at len x ++ ts) to
lie_more at len to None ts some h = lie_later at (at + len) to ts (omega arith) h
lie_more at len to (Some k) ts some h = (omega arith, omega arith, h)

reads_lie : {at : ℕ} {text : List ℕ} {ts : List Token} {left : List ℕ} → Reads at text ts left → LieBetween at ts (at + length text)
reads_lie (Reads.nothing at text) = omega arith
reads_lie (Reads.piece at {w = w} {rest = rest} {kind = x} {tokens = ts} t d) =
    let end : at + length w + length rest ≡ at + length (w ++ rest) = omega (arith, length-append w rest) in
    lie_more at (length w) (at + length (w ++ rest)) x ts (taken_nonempty w rest x t) (subst (LieBetween (at + length w) ts) end (reads_lie d))

pub tokens_lie : (text : List ℕ) (ts : List Token) → Reads 0 text ts [] → LieBetween 0 ts (length text)
tokens_lie text ts d = subst (LieBetween 0 ts) (let zero : 0 + length text ≡ length text = omega arith in zero) (reads_lie d)

-- ---- one place where no token begins

span_same : (a b : Span) → a.start ≡ b.start → a.end ≡ b.end → a ≡ b
span_same a b start end =
    let from : ℕ → Span = λ n. record { start = n; end = a.end } in
    let to : ℕ → Span = λ n. record { start = b.start; end = n } in
    ap from start ∙ ap to end

pub bad_token_same : (text : List ℕ) (span other : Span) → IsBadToken text span → IsBadToken text other → span ≡ other
bad_token_same text span other b d =
    let same = reads_same b.read text d.tokens d.left refl b.stuck d.stuck d.read in
    let one = encode_same b.character.character d.character.character b.character.rest d.character.rest (sym b.character.first ∙ same.behind ∙ d.character.first) in
    let len : b.len ≡ d.len = b.character.is ∙ ap (λ (c : ℕ). length (encode_utf8 c)) one.0 ∙ sym d.character.is in
    let start : span.start ≡ other.start = omega (arith, ap length same.behind, b.start, d.start) in
    let end : span.end ≡ other.end = omega (arith, b.end, d.end, start, len) in
    span_same span other start end

-- and no text with tokens has one
pub no_bad_token : (text : List ℕ) (ts : List Token) (span : Span) → Reads 0 text ts [] → IsBadToken text span → ⊥
no_bad_token text ts span d b =
    let end : b.left ≡ [] = no_bad_place text b.left ts b.tokens d b.read b.stuck in
    let some = len_utf8_bounds b.character.character in
    omega (arith, ap length (sym end ∙ b.character.first), length-append (encode_utf8 b.character.character) b.character.rest, length-encode b.character.character, some.0)
