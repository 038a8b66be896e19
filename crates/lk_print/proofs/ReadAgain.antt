-- What is written of tokens is UTF-8, and is read again as the same tokens.
use Rattle.std.proofs.Common.{inl, inr, List, [], ◌∷◌, ◌++◌, length, refl, subst, arith}
use Rattle.std.specs.Prelude.{All, flat_map, map}
use Rattle.std.specs.Str.{IsUtf8}
use Rattle.std.proofs.lemmas.List.{take_at, drop_at}
use Rattle.std.proofs.lemmas.List.Elements.{All-head, All-tail, All-weaker, All-take, All-drop, All-contains}
use Rattle.std.proofs.lemmas.Str.{IsUtf8-append, IsUtf8-nil}
use Rattle.lk_ast.specs.declared.token.Token.{Token}
use Rattle.lk_ast.specs.declared.token.TokenKind.{TokenKind}
use Rattle.lk_parse.proofs.TextLiterals.{ascii_one}
use Rattle.lk_print.specs.Good.{IsSpelled, IsGood, IsReadAgain}
use Rattle.lk_print.specs.Written.{written, spaced, line_of, text_of, kinds_of}
use Rattle.lk_print.proofs.GoodKinds.{constant_good}
use Rattle.lk_print.proofs.Lines.{text_read}

spaced_utf8 : (kinds : List TokenKind) → All IsGood kinds → IsUtf8 (flat_map spaced kinds)
spaced_utf8 [] good = IsUtf8-nil
spaced_utf8 (k ∷ kinds) good =
    let first = All-head IsGood k kinds good in
    let one = IsUtf8-append (32 ∷ []) (written k) (ascii_one 32 (omega arith)) first.utf8 in
    IsUtf8-append (spaced k) (flat_map spaced kinds) one (spaced_utf8 kinds (All-tail IsGood k kinds good))

line_utf8 : (kinds : List TokenKind) → All IsGood kinds → IsUtf8 (line_of kinds)
line_utf8 [] good = ascii_one 10 (omega arith)
line_utf8 (k ∷ kinds) good =
    let first = All-head IsGood k kinds good in
    let behind = spaced_utf8 kinds (All-tail IsGood k kinds good) in
    IsUtf8-append (written k) (flat_map spaced kinds ++ 10 ∷ []) first.utf8 (IsUtf8-append (flat_map spaced kinds) (10 ∷ []) behind (ascii_one 10 (omega arith)))

pub text_utf8 : (lines : List (List TokenKind)) → All IsGood (kinds_of lines) → IsUtf8 (text_of lines)
text_utf8 [] good = IsUtf8-nil
text_utf8 (kinds ∷ lines) good =
    let first = subst (All IsGood) (take_at kinds (kinds_of lines) (length kinds) refl) (All-take IsGood (length kinds) (kinds ++ kinds_of lines) good) in
    let behind = subst (All IsGood) (drop_at kinds (kinds_of lines) (length kinds) refl) (All-drop IsGood (length kinds) (kinds ++ kinds_of lines) good) in
    IsUtf8-append (line_of kinds) (text_of lines) (line_utf8 kinds first) (text_utf8 lines behind)

pub read_again : (lines : List (List TokenKind)) → All IsGood (kinds_of lines) → IsReadAgain lines
read_again lines good = record {
  utf8 = text_utf8 lines good;
  read = text_read lines 0 (All-weaker IsGood IsSpelled (λ k h. h.spelled) (kinds_of lines) good);
}
