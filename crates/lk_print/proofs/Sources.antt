-- The tokens of a text can be written.
use Rattle.std.proofs.Common.{◌≡◌, ℕ, true, List, [], ◌∷◌, ◌++◌, length, Option, Some, None, pos, refl, sym, ap, subst, append_assoc, inl, inr, arith}
use Rattle.std.specs.Prelude.{All}
use Rattle.std.specs.List.{AllPass}
use Rattle.std.specs.Str.{IsUtf8}
use Rattle.std.proofs.lemmas.Bool.{cases_eq, ltb-true}
use Rattle.std.proofs.lemmas.Bool.Decides.{nat_tests}
use Rattle.std.proofs.lemmas.List.{length-append}
use Rattle.std.proofs.lemmas.List.Elements.{All-nil, All-cons, All-head, All-tail, All-append}
use Rattle.std.proofs.lemmas.Str.{IsUtf8-append, IsUtf8-nil}
use Rattle.lk_ast.specs.declared.token.Token.{Token}
use Rattle.lk_ast.specs.declared.token.TokenKind.{TokenKind}
use Rattle.lk_ast.specs.declared.token.TokenKind.TheVariants as kind
use Rattle.lk_parse.specs.Pieces.{is_no_feed, IsContent, IsPiece}
use Rattle.lk_parse.specs.Scanner.{start_of}
use Rattle.lk_parse.specs.Tokens.{IsTaken, Reads, HasTokens, token_at}
use Rattle.lk_parse.specs.declared.start.Start.{Start}
use Rattle.lk_parse.specs.declared.start.Start.TheVariants.{White, Comment, Word, Tag, Int, Text, Sign}
use Rattle.lk_parse.proofs.Runs.{is_hash, is_quote}
use Rattle.lk_parse.proofs.Shapes.{Shape, shape_of, piece_nonempty}
use Rattle.lk_parse.proofs.TextLiterals.{ascii_apart, ascii_one, meaning_utf8}
use Rattle.lk_print.specs.Good.{IsGood}
use Rattle.lk_print.specs.Written.{written}
use Rattle.lk_print.proofs.GoodKinds.{is_small, word_small, integer_small, sign_small, spelled_good, text_good}

-- the token that a piece is can be written, and the text behind it is UTF-8
abbrev Kept : Option TokenKind → List ℕ → Type 0
Kept None rest = IsUtf8 rest
Kept (Some k) rest = IsGood k × IsUtf8 rest

-- ---- what is UTF-8 behind a piece

small_behind : (w rest : List ℕ) → AllPass is_small w → IsUtf8 (w ++ rest) → IsUtf8 rest
small_behind [] rest small utf8 = utf8
small_behind (c ∷ w) rest small utf8 =
    let first = ltb-true c 128 (All-head (λ b. is_small b ≡ true) c w small) in
    small_behind w rest (All-tail (λ b. is_small b ≡ true) c w small) (ascii_apart [] (w ++ rest) c first utf8).1

white_small : (c : ℕ) → start_of c ≡ White → is_small c ≡ true
white_small c h = grind (arith, nat_tests)

no_feed : (c : ℕ) → (c ≡ 10 → ⊥) → is_no_feed c ≡ true
no_feed c other = grind (arith, nat_tests)

-- a comment goes on to LF or to the end
comment_behind : (w rest : List ℕ) → AllPass is_no_feed w → IsTaken (35 ∷ w) rest None → IsUtf8 ((35 ∷ w) ++ rest) → IsUtf8 rest
comment_behind w [] all t utf8 = IsUtf8-nil
comment_behind w (c ∷ rest) all t utf8 = elim (cases_eq c 10) [
  | inl feed ↦
      let apart = ascii_apart (35 ∷ w) rest 10 (omega arith) (subst (λ (b : ℕ). IsUtf8 ((35 ∷ w) ++ b ∷ rest)) feed utf8) in
      subst (λ (b : ℕ). IsUtf8 (b ∷ rest)) (sym feed) (IsUtf8-append (10 ∷ []) rest (ascii_one 10 (omega arith)) apart.1)
  | inr other ↦
      let longer : AllPass is_no_feed (w ++ c ∷ []) = All-append (λ b. is_no_feed b ≡ true) w (c ∷ []) all (All-cons (λ b. is_no_feed b ≡ true) c [] (no_feed c other) (All-nil (λ b. is_no_feed b ≡ true))) in
      let most = t.longest (35 ∷ (w ++ c ∷ [])) rest (ap (λ (z : List ℕ). 35 ∷ z) (sym (append_assoc w (c ∷ []) rest))) (inl (None, IsPiece.comment (w ++ c ∷ []) longer)) in
      absurd (omega (arith, most, length-append w (c ∷ [])))
]

-- ---- a piece

-- one that is written as it stands, in ASCII
same_kept : (w rest : List ℕ) (x : Option TokenKind) (k : TokenKind) → x ≡ Some k → written k ≡ w → AllPass is_small w → IsPiece w x → IsUtf8 (w ++ rest) → Kept x rest
same_kept w rest x k is same small piece utf8 =
    let spelled = subst (λ (v : List ℕ). IsPiece v (Some k)) (sym same) (subst (λ (y : Option TokenKind). IsPiece w y) is piece) in
    subst (λ (y : Option TokenKind). Kept y rest) (sym is) (spelled_good k spelled (subst (λ (v : List ℕ). AllPass is_small v) (sym same) small), small_behind w rest small utf8)

literal_kept : (content meant rest : List ℕ) → IsContent content meant → IsUtf8 ((34 ∷ (content ++ 34 ∷ [])) ++ rest) → Kept (Some (kind.Text meant)) rest
literal_kept content meant rest h utf8 =
    let whole = subst (λ (z : List ℕ). IsUtf8 (34 ∷ z)) (append_assoc content (34 ∷ []) rest) utf8 in
    let meaning = (ascii_apart [] (meant ++ 34 ∷ rest) 34 (omega arith) (meaning_utf8 (34 ∷ []) content meant (34 ∷ rest) h whole)).1 in
    let apart = ascii_apart meant rest 34 (omega arith) meaning in
    (text_good meant apart.0, apart.1)

kept_as : (start : Start) (c : ℕ) (w rest : List ℕ) (x : Option TokenKind) → start_of c ≡ start → Shape start c w x → IsTaken (c ∷ w) rest x → IsUtf8 ((c ∷ w) ++ rest) → Kept x rest
kept_as White c w rest x begins shape t utf8 =
    let one : IsUtf8 (c ∷ rest) = subst (λ (v : List ℕ). IsUtf8 ((c ∷ v) ++ rest)) shape.1 utf8 in
    subst (λ (y : Option TokenKind). Kept y rest) (sym shape.0) (ascii_apart [] rest c (ltb-true c 128 (white_small c begins)) one).1
kept_as Comment c w rest x begins shape t utf8 =
    let hash = is_hash c begins in
    let taken = subst (λ (b : ℕ). IsTaken (b ∷ w) rest None) hash (subst (λ (y : Option TokenKind). IsTaken (c ∷ w) rest y) shape.0 t) in
    subst (λ (y : Option TokenKind). Kept y rest) (sym shape.0) (comment_behind w rest (All-tail (λ b. is_no_feed b ≡ true) c w shape.1) taken (subst (λ (b : ℕ). IsUtf8 ((b ∷ w) ++ rest)) hash utf8))
kept_as Word c w rest x begins shape t utf8 = same_kept (c ∷ w) rest x (kind.Word (c ∷ w)) shape.0 refl (word_small (c ∷ w) shape.1) t.piece utf8
kept_as Tag c w rest x begins shape t utf8 = same_kept (c ∷ w) rest x (kind.Tag (c ∷ w)) shape.0 refl (word_small (c ∷ w) shape.1) t.piece utf8
kept_as Int c w rest x begins shape t utf8 = same_kept (c ∷ w) rest x (kind.Int (pos shape.0)) shape.1 (sym shape.2.0) (integer_small (c ∷ w) shape.0 shape.2) t.piece utf8
kept_as Text c w rest x begins shape t utf8 =
    let quoted : IsUtf8 ((34 ∷ w) ++ rest) = subst (λ (b : ℕ). IsUtf8 ((b ∷ w) ++ rest)) (is_quote c begins) utf8 in
    subst (λ (y : Option TokenKind). Kept y rest) (sym shape.2) (literal_kept shape.0 shape.1 rest shape.4 (subst (λ (v : List ℕ). IsUtf8 ((34 ∷ v) ++ rest)) shape.3 quoted))
kept_as Sign c w rest x begins shape t utf8 = same_kept (c ∷ w) rest x (kind.Sign (c ∷ w)) shape.0 refl (sign_small (c ∷ w) shape.1) t.piece utf8

piece_kept : (w rest : List ℕ) (x : Option TokenKind) → IsTaken w rest x → IsUtf8 (w ++ rest) → Kept x rest
piece_kept [] rest x t utf8 = absurd (piece_nonempty x t.piece)
piece_kept (c ∷ w) rest x t utf8 = kept_as (start_of c) c w rest x refl (shape_of c w x t.piece) t utf8

-- ---- all pieces

abbrev HasGoodKind : Token → Type 0
HasGoodKind token = IsGood token.kind

kept_utf8 : (x : Option TokenKind) (rest : List ℕ) → Kept x rest → IsUtf8 rest
kept_utf8 None rest kept = kept
kept_utf8 (Some k) rest kept = kept.1

kept_more : (at len : ℕ) (x : Option TokenKind) (rest : List ℕ) (tokens : List Token) → Kept x rest → All HasGoodKind tokens → All HasGoodKind (token_at at len x ++ tokens)
kept_more at len None rest tokens kept all = all
kept_more at len (Some k) rest tokens kept all = All-cons HasGoodKind _ tokens kept.0 all

read_good : {at : ℕ} {text : List ℕ} {tokens : List Token} {left : List ℕ} → Reads at text tokens left → IsUtf8 text → All (λ (token : Token). IsGood token.kind) tokens
read_good (Reads.nothing at text) utf8 = All-nil HasGoodKind
read_good (Reads.piece at {w = w} {rest = rest} {kind = x} {tokens = tokens} t d) utf8 =
    let kept = piece_kept w rest x t utf8 in
    kept_more at (length w) x rest tokens kept (read_good d (kept_utf8 x rest kept))

pub tokens_good : (text : List ℕ) (tokens : List Token) → HasTokens text tokens → All (λ (token : Token). IsGood token.kind) tokens
tokens_good text tokens h = read_good h.read h.utf8
