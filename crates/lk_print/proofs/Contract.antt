-- What the contract of `print` owes, from the laws of expressions and of tokens.
use Rattle.std.proofs.Common.{◌≡◌, ℕ, List, [], ◌∷◌, ◌++◌, length, take, ◌≤◌, map, refl, sym, ap, subst, ◌∙◌}
use Rattle.std.specs.Prelude.{All, flat_map}
use Rattle.std.proofs.lemmas.List.{take_all}
use Rattle.std.proofs.lemmas.List.Elements.{All-nil, All-cons, All-head, All-tail}
use Rattle.std.proofs.lemmas.List.Folds.{flat_map-map}
use Rattle.lk_ast.specs.declared.declaration.Decl.{Decl}
use Rattle.lk_ast.specs.declared.declaration.Program.{Program}
use Rattle.lk_ast.specs.declared.token.Token.{Token}
use Rattle.lk_print.specs.Again.{IsSource, SaysAgain}
use Rattle.lk_print.specs.Good.{IsGood}
use Rattle.lk_print.specs.Printed.{Kinds, joined, declaration, declarations}
use Rattle.lk_print.specs.Written.{line_of, text_of, kinds_of}
use Rattle.lk_print.proofs.Declarations.{KeepsProgram, program_kept}
use Rattle.lk_print.proofs.Expressions.{GoodTokens}
use Rattle.lk_print.proofs.Goods.{Good, good_joined}
use Rattle.lk_print.proofs.Lists.{Each}
use Rattle.lk_print.proofs.ReadAgain.{read_again}
use Rattle.lk_print.proofs.Sources.{tokens_good}

pub lines_together : (ds : List Decl) → flat_map line_of (map declaration ds) ≡ flat_map (λ d. line_of (declaration d)) ds
lines_together ds = flat_map-map line_of declaration ds

good_tokens : (tokens : List Token) → All (λ (t : Token). IsGood t.kind) tokens → GoodTokens tokens
good_tokens [] all = Each.none
good_tokens (t ∷ tokens) all = Each.also (All-head (λ (s : Token). IsGood s.kind) t tokens all) (good_tokens tokens (All-tail (λ (s : Token). IsGood s.kind) t tokens all))

all_good : (kinds : Kinds) → Good kinds → All IsGood kinds
all_good [] Each.none = All-nil IsGood
all_good (k ∷ kinds) (Each.also g gs) = All-cons IsGood k kinds g (all_good kinds gs)

together : (lines : List Kinds) → kinds_of lines ≡ joined lines
together [] = refl
together (w ∷ lines) = ap (λ z. w ++ z) (together lines)

pub says_again : (source : List ℕ) (p : Program) → IsSource source p → SaysAgain (text_of (declarations p)) p
says_again source p s =
    let kept : KeepsProgram p = subst KeepsProgram (sym s.names) (program_kept s.tokens s.tree (good_tokens s.tokens (tokens_good source s.tokens s.has)) s.is) in
    let again = read_again (declarations p) (all_good (kinds_of (declarations p)) (subst Good (sym (together (declarations p))) (good_joined (declarations p) kept.good))) in
    let found = kept.program.run again.read.tokens (again.read.are ∙ together (declarations p)) in
    record {
      utf8 = again.utf8;
      tokens = again.read.tokens;
      read = again.read.read;
      tree = found.0;
      is = found.1;
      same = found.2;
      parsed = λ fits light. record { tokens = again.read.tokens; has = record { fits = fits; utf8 = again.utf8; read = again.read.read }; light = light; tree = found.0; is = found.1; names = refl };
    }

-- all lines are written
pub text_line : (text : List ℕ) (ds items : List Decl) (i : ℕ) → items ≡ ds → length items ≤ i → text ≡ flat_map (λ d. line_of (declaration d)) (take i items) → text ≡ text_of (map declaration ds)
text_line text ds items i same end was = was ∙ ap (flat_map (λ d. line_of (declaration d))) (take_all i items end ∙ same) ∙ sym (lines_together ds)

pub text_again : (source text : List ℕ) (p : Program) → IsSource source p → text ≡ text_of (declarations p) → SaysAgain text p
text_again source text p s is = subst (λ z. SaysAgain z p) (sym is) (says_again source p s)
