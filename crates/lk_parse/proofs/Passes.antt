-- One pass over a text.
use Rattle.std.proofs.Common.{◌≡◌, ℕ, ◌+◌, ◌≤◌, List, [], ◌++◌, length, take, drop, Option, refl, sym, subst, append_assoc, arith}
use Rattle.std.specs.Str.{IsUtf8, IsCharBoundary}
use Rattle.std.proofs.lemmas.List.{append-nil, take-append-drop, length-take-le, length-drop, drop-drop, drop_all}
use Rattle.std.proofs.lemmas.Str.{IsCharBoundary-start, IsCharBoundary-from_rest}
use Rattle.lk_ast.specs.declared.token.Token.{Token}
use Rattle.lk_ast.specs.declared.token.TokenKind.{TokenKind}
use Rattle.lk_parse.specs.Scanner.{Takes}
use Rattle.lk_parse.specs.Tokens.{IsStuck, IsBadToken, IsFirstCharacter, Reads, token_at}
use Rattle.lk_parse.specs.declared.piece.Piece.{Piece}

-- the text is read up to this place, and has these tokens there
pub record IsAt (text : List ℕ) (tokens : List Token) (at : ℕ) : Type 0 where
  pub fits : at ≤ length text
  pub boundary : IsCharBoundary text at
  pub read : (ts : List Token) (left : List ℕ) → Reads at (drop at text) ts left → Reads 0 text (tokens ++ ts) left

pub at_start : (text : List ℕ) → IsUtf8 text → IsAt text [] 0
at_start text utf8 = record { fits = omega arith; boundary = IsCharBoundary-start text utf8; read = λ ts left d. d }

piece_read : (at len : ℕ) (text left : List ℕ) (kind : Option TokenKind) (ts : List Token) → Takes text (record { len = len; kind = kind }) → Reads (at + len) (drop len text) ts left → Reads at text (token_at at len kind ++ ts) left
piece_read at len text left kind ts t d =
    let is : length (take len text) ≡ len = length-take-le len text t.fits in
    subst (λ (z : List ℕ). Reads at z (token_at at len kind ++ ts) left) (take-append-drop len text)
    (subst (λ (n : ℕ). Reads at (take len text ++ drop len text) (token_at at n kind ++ ts) left) is
    (Reads.piece at t.taken (subst (λ (n : ℕ). Reads (at + n) (drop len text) ts left) (sym is) d)))

pub at_piece : (text rest : List ℕ) (tokens new : List Token) (at : ℕ) (piece : Piece) → IsAt text tokens at → rest ≡ drop at text → Takes rest piece → new ≡ tokens ++ token_at at piece.len piece.kind → IsAt text new (at + piece.len)
at_piece text rest tokens new at piece here is takes e =
    let t = subst (λ (z : List ℕ). Takes z piece) is takes in
    rw e (record {
      fits = let inside = here.fits in let within = t.fits in omega (arith, length-drop at text);
      boundary = IsCharBoundary-from_rest text at piece.len here.fits t.boundary;
      read = λ ts left d. subst (λ (us : List Token). Reads 0 text us left) (sym (append_assoc tokens (token_at at piece.len piece.kind) ts))
          (here.read (token_at at piece.len piece.kind ++ ts) left (piece_read at piece.len (drop at text) left piece.kind ts t (subst (λ (z : List ℕ). Reads (at + piece.len) z ts left) (sym (drop-drop piece.len at text)) d)));
    })

pub at_end : (text : List ℕ) (tokens : List Token) (at : ℕ) → length text ≤ at → IsAt text tokens at → Reads 0 text tokens []
at_end text tokens at end here = subst (λ (ts : List Token). Reads 0 text ts []) (append-nil tokens) (here.read [] [] (subst (λ (z : List ℕ). Reads at z [] []) (sym (drop_all at text end)) (Reads.nothing at [])))

pub at_bad : (text rest : List ℕ) (tokens : List Token) (at len : ℕ) → IsAt text tokens at → rest ≡ drop at text → IsStuck rest → IsFirstCharacter rest len → IsBadToken text (record { start = at; end = at + len })
at_bad text rest tokens at len here is stuck first = record {
  tokens = tokens ++ [];
  left = drop at text;
  read = here.read [] (drop at text) (Reads.nothing at (drop at text));
  stuck = subst IsStuck is stuck;
  start = let inside = here.fits in omega (arith, length-drop at text);
  len = len;
  character = subst (λ (z : List ℕ). IsFirstCharacter z len) is first;
  end = refl;
}
