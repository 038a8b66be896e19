-- The text of tokens is read as these tokens.
use Rattle.std.proofs.Common.{◌≡◌, ℕ, ◌+◌, true, List, [], ◌∷◌, ◌++◌, length, Some, refl, sym, ap, subst, append_assoc}
use Rattle.std.specs.Prelude.{All, flat_map}
use Rattle.std.proofs.lemmas.List.Elements.{All-head, All-tail}
use Rattle.lk_ast.specs.declared.token.TokenKind.{TokenKind}
use Rattle.lk_parse.specs.Pieces.{is_white}
use Rattle.lk_parse.specs.Tokens.{Reads, token_at}
use Rattle.lk_parse.proofs.Runs.{white_taken}
use Rattle.lk_parse.proofs.Shapes.{white_starts}
use Rattle.lk_print.specs.Good.{IsSpelled, IsReadAs}
use Rattle.lk_print.specs.Written.{written, spaced, line_of, text_of, kinds_of}
use Rattle.lk_print.proofs.Ends.{begins_white, spelled_taken}

-- a token and a byte of white space in front of what is read already
token_read : (at : ℕ) (k : TokenKind) (rest : List ℕ) (kinds : List TokenKind) → IsSpelled k → begins_white rest ≡ true → IsReadAs (at + length (written k)) rest kinds → IsReadAs at (written k ++ rest) (k ∷ kinds)
token_read at k rest kinds spelled white r = record {
  tokens = token_at at (length (written k)) (Some k) ++ r.tokens;
  read = Reads.piece at (spelled_taken k rest spelled white) r.read;
  are = ap (λ (ks : List TokenKind). k ∷ ks) r.are;
}

white_read : (at s : ℕ) (rest : List ℕ) (kinds : List TokenKind) → is_white s ≡ true → IsReadAs (at + 1) rest kinds → IsReadAs at (s ∷ rest) kinds
white_read at s rest kinds white r = record { tokens = r.tokens; read = Reads.piece at (white_taken s rest (white_starts s white)) r.read; are = r.are }

behind_white : (kinds : List TokenKind) (rest : List ℕ) → begins_white (flat_map spaced kinds ++ 10 ∷ rest) ≡ true
behind_white [] rest = refl
behind_white (k ∷ kinds) rest = refl

-- wherever a line's tokens stand, and whatever is read behind them
behind_read : (kinds more : List TokenKind) (rest : List ℕ) → All IsSpelled (kinds ++ more) → (All IsSpelled more → (at : ℕ) → IsReadAs at rest more) → (at : ℕ) → IsReadAs at (flat_map spaced kinds ++ 10 ∷ rest) (kinds ++ more)
behind_read [] more rest spelled next at = white_read at 10 rest more refl (next spelled (at + 1))
behind_read (k ∷ kinds) more rest spelled next at =
    let here = All-head IsSpelled k (kinds ++ more) spelled in
    let behind = behind_read kinds more rest (All-tail IsSpelled k (kinds ++ more) spelled) next (at + 1 + length (written k)) in
    white_read at 32 ((written k ++ flat_map spaced kinds) ++ 10 ∷ rest) (k ∷ (kinds ++ more)) refl
    (subst (λ (z : List ℕ). IsReadAs (at + 1) z (k ∷ (kinds ++ more))) (sym (append_assoc (written k) (flat_map spaced kinds) (10 ∷ rest)))
    (token_read (at + 1) k (flat_map spaced kinds ++ 10 ∷ rest) (kinds ++ more) here (behind_white kinds rest) behind))

line_read : (kinds more : List TokenKind) (rest : List ℕ) → All IsSpelled (kinds ++ more) → (All IsSpelled more → (at : ℕ) → IsReadAs at rest more) → (at : ℕ) → IsReadAs at (line_of kinds ++ rest) (kinds ++ more)
line_read [] more rest spelled next at = white_read at 10 rest more refl (next spelled (at + 1))
line_read (k ∷ kinds) more rest spelled next at =
    let here = All-head IsSpelled k (kinds ++ more) spelled in
    let behind = behind_read kinds more rest (All-tail IsSpelled k (kinds ++ more) spelled) next (at + length (written k)) in
    subst (λ (z : List ℕ). IsReadAs at z (k ∷ (kinds ++ more))) (sym (line k kinds))
    (token_read at k (flat_map spaced kinds ++ 10 ∷ rest) (kinds ++ more) here (behind_white kinds rest) behind)
  where
    line : (k : TokenKind) (kinds : List TokenKind) → line_of (k ∷ kinds) ++ rest ≡ written k ++ (flat_map spaced kinds ++ 10 ∷ rest)
    line k kinds = simp append_assoc

pub text_read : (lines : List (List TokenKind)) (at : ℕ) → All IsSpelled (kinds_of lines) → IsReadAs at (text_of lines) (kinds_of lines)
text_read [] at spelled = record { tokens = []; read = Reads.nothing at []; are = refl }
text_read (kinds ∷ lines) at spelled = line_read kinds (kinds_of lines) (text_of lines) spelled (λ more from. text_read lines from more) at
