-- What is printed of words before parentheses, and which tokens are these words or literals.
use Rattle.std.proofs.Common.{◌≡◌, ℕ, Bool, true, false, List, ◌∷◌, refl, sym, ap, subst, ◌∙◌}
use Rattle.std.specs.Prelude.{codes, nat_eq, if◌then◌else◌}
use Rattle.std.specs.Str.{bytes_eq}
use Rattle.lk_ast.specs.Layers.{Layer}
use Rattle.lk_ast.specs.declared.expression.Expr.{Expr}
use Rattle.lk_ast.specs.declared.expression.Node.{Node, roll-Node}
use Rattle.lk_ast.specs.declared.expression.Node.TheOpen.{Node-F}
use Rattle.lk_ast.specs.declared.expression.Node.TheVariants as node
use Rattle.lk_ast.specs.declared.place.Span.{Span}
use Rattle.lk_ast.specs.declared.token.Token.{Token}
use Rattle.lk_ast.specs.declared.token.TokenKind.{TokenKind}
use Rattle.lk_ast.specs.declared.token.TokenKind.TheVariants.{Word, Tag, Int, Text, Sign}
use Rattle.lk_read.specs.Keywords.{is_in, is_keyword}
use Rattle.lk_read.specs.Kinds.{is_name, is_name_kind, is_any_tag, is_any_tag_kind, text_of_kind}
use Rattle.lk_grammar.specs.Expressions.{IsPrimary}
use Rattle.lk_parts.specs.Operators.{prefix_node}
use Rattle.lk_parts.specs.Parts.{prefixed, literal_node, between}
use Rattle.lk_parts.specs.Starts.{truths, prefixes, forms, begins, number, start_of_keyword, start_of_sign, start_of_kind}
use Rattle.lk_parts.specs.declared.starts.Start.TheVariants as start
use Rattle.lk_print.specs.Bare.{bare, bare_layer}
use Rattle.lk_print.specs.Good.{IsGood}
use Rattle.lk_print.specs.Printed.{form_of, node_form, primary, in_round}
use Rattle.lk_print.proofs.GoodKinds.{is_constant, constant_good}
use Rattle.lk_print.proofs.Goods.{good_round}
use Rattle.lk_print.proofs.Levels.{of_node, scoped_at, form_at, same_level, parts_scoped, parts_bare, parts_printed}
use Rattle.lk_print.proofs.Lists.{Each}
use Rattle.lk_print.proofs.Meant.{Written, primary_written}
use Rattle.lk_print.proofs.Operators.{one_of, none_left}
use Rattle.lk_print.proofs.Primaries.{IsNamed, int_written, text_written, bool_written}
use Rattle.lk_print.proofs.Spelled.{token, spelt_none, spelt_cons, spelt_append}
use Rattle.lk_scope.specs.Names.{Names}
use Rattle.lk_scope.specs.Scoped.{scoped, node_in}

-- what a word makes of the expression in parentheses behind it
pub record Prefix (word : List ℕ) (made : Expr → Node) : Type 0 where
  pub good : IsGood (Word word)
  pub is : (span : Span) → begins start.Prefix (token span (Word word)) ≡ true
  pub gives : (e : Expr) → prefix_node word e ≡ made e
  pub prints : (span : Span) (e : Expr) → form_of (of_node span (made e)) ≡ primary (Word word ∷ in_round (form_of e).alone)
  pub resolves : (span : Span) (e : Expr) (names : Names) → scoped (of_node span (made e)) names ≡ of_node span (made (scoped e names))
  pub same : (s t : Span) (e d : Expr) → bare e ≡ bare d → bare (of_node s (made e)) ≡ bare (of_node t (made d))

word_prefix : (word : List ℕ) (made : Expr → Node) (layer : Expr → Layer) → ((e : Expr) → roll-Node (layer e) ≡ made e)
    → is_constant (Word word) ≡ true → ((span : Span) → begins start.Prefix (token span (Word word)) ≡ true) → ((e : Expr) → prefix_node word e ≡ made e)
    → ((e : Expr) → node_form (parts_printed (layer e)) ≡ primary (Word word ∷ in_round (form_of e).alone))
    → ((e : Expr) (names : Names) → node_in (parts_scoped (layer e)) names ≡ made (scoped e names))
    → ((e : Expr) → bare_layer (parts_bare (layer e)) ≡ layer (bare e)) → Prefix word made
word_prefix word made layer rolls good is gives prints resolves same = record {
  good = constant_good (Word word) good;
  is = is;
  gives = gives;
  prints = λ span e. ap (λ n. form_of (of_node span n)) (sym (rolls e)) ∙ form_at span (layer e) ∙ prints e;
  resolves = λ span e names. ap (λ n. scoped (of_node span n) names) (sym (rolls e)) ∙ scoped_at span (layer e) names ∙ ap (of_node span) (resolves e names);
  same = λ s t e d p. ap (λ n. bare (of_node s n)) (sym (rolls e)) ∙ same_level s t (layer e) (layer d) (same e ∙ ap layer p ∙ sym (same d)) ∙ ap (λ n. bare (of_node t n)) (rolls d);
}

print_is : Prefix (codes "print") node.Print
unfolding begins is_keyword start_of_keyword prefix_node
print_is = word_prefix _ _ (λ e. Node-F.Print e) node.rolls-Print refl (λ span. refl) (λ e. refl) (λ e. refl) (λ e names. refl) (λ e. refl)

not_is : Prefix (codes "not") node.Not
unfolding begins is_keyword start_of_keyword prefix_node
not_is = word_prefix _ _ (λ e. Node-F.Not e) node.rolls-Not refl (λ span. refl) (λ e. refl) (λ e. refl) (λ e names. refl) (λ e. refl)

hd_is : Prefix (codes "hd") node.Hd
unfolding begins is_keyword start_of_keyword prefix_node
hd_is = word_prefix _ _ (λ e. Node-F.Hd e) node.rolls-Hd refl (λ span. refl) (λ e. refl) (λ e. refl) (λ e names. refl) (λ e. refl)

tl_is : Prefix (codes "tl") node.Tl
unfolding begins is_keyword start_of_keyword prefix_node
tl_is = word_prefix _ _ (λ e. Node-F.Tl e) node.rolls-Tl refl (λ span. refl) (λ e. refl) (λ e. refl) (λ e names. refl) (λ e. refl)

empty_is : Prefix (codes "empty") node.Empty
unfolding begins is_keyword start_of_keyword prefix_node
empty_is = word_prefix _ _ (λ e. Node-F.Empty e) node.rolls-Empty refl (λ span. refl) (λ e. refl) (λ e. refl) (λ e names. refl) (λ e. refl)

intToString_is : Prefix (codes "intToString") node.IntToString
unfolding begins is_keyword start_of_keyword prefix_node
intToString_is = word_prefix _ _ (λ e. Node-F.IntToString e) node.rolls-IntToString refl (λ span. refl) (λ e. refl) (λ e. refl) (λ e names. refl) (λ e. refl)

pub prefix_written : (names : Names) (word : List ℕ) (made : Expr → Node) (span : Span) (e : Expr) → Prefix word made → Written names e → Written names (of_node span (made e))
prefix_written names word made span e op r = primary_written names (of_node span (made e)) _ (op.prints span e) (Each.also op.good (good_round (form_of e).alone r.good_alone)) (spelt_cons (λ k. spelt_cons (λ o. spelt_append (form_of e).alone r.alone (λ u a. spelt_cons (λ c. spelt_none (record {
  part = prefixed (token k (Word word)) a.part (token c (Sign (codes ")")));
  is = IsPrimary.prefix (token k (Word word)) (token o (Sign (codes "("))) (token c (Sign (codes ")"))) (op.is k) refl a.is refl;
  operator = refl;
  comparison = refl;
  call = refl;
  same = ap (λ n. bare (scoped (of_node (between k.start c.end) n) names)) (op.gives a.part.expr) ∙ ap bare (op.resolves _ a.part.expr names) ∙ op.same _ span _ e a.same;
}))))))

-- ---- which words these are

pub record KnownPrefix (kind : TokenKind) : Type 0 where
  pub word : List ℕ
  pub is : kind ≡ Word word
  pub made : Expr → Node
  pub prefix_of : Prefix word made

abbrev KnownWord : List ℕ → Type 0
KnownWord w = KnownPrefix (Word w)

known_word : (word : List ℕ) (made : Expr → Node) → Prefix word made → KnownWord word
known_word word made op = record { word = word; is = refl; made = made; prefix_of = op }

prefix_known : (w : List ℕ) → is_in w prefixes ≡ true → KnownWord w
prefix_known w e =
    one_of KnownWord w (codes "print") _ (known_word _ _ print_is) (one_of KnownWord w (codes "not") _ (known_word _ _ not_is) (one_of KnownWord w (codes "hd") _ (known_word _ _ hd_is) (one_of KnownWord w (codes "tl") _ (known_word _ _ tl_is) (one_of KnownWord w (codes "empty") _ (known_word _ _ empty_is) (one_of KnownWord w (codes "intToString") _ (known_word _ _ intToString_is) none_left))))) e

-- which of the tests it was that gave a start
keyword_tests : (a b c d : Bool) (n : ℕ) → nat_eq (number (if a then (if b then start.Literal else (if c then start.Prefix else (if d then start.Form else start.Other))) else start.Name)) 6 ≡ true → c ≡ true
keyword_tests true true c d n e = absurd cc
keyword_tests true false true d n e = refl
keyword_tests true false false true n e = absurd cc
keyword_tests true false false false n e = absurd cc
keyword_tests false b c d n e = absurd cc

literal_tests : (a b c d : Bool) → nat_eq (number (if a then (if b then start.Literal else (if c then start.Prefix else (if d then start.Form else start.Other))) else start.Name)) 0 ≡ true → b ≡ true
literal_tests true true c d e = refl
literal_tests true false true d e = absurd cc
literal_tests true false false true e = absurd cc
literal_tests true false false false e = absurd cc
literal_tests false b c d e = absurd cc

sign_prefix : (a b c d : Bool) → nat_eq (number (if a then start.Round else (if b then start.Square else (if c then start.Brace else (if d then start.Minus else start.Other))))) 6 ≡ true → ⊥
sign_prefix true b c d e = cc
sign_prefix false true c d e = cc
sign_prefix false false true d e = cc
sign_prefix false false false true e = cc
sign_prefix false false false false e = cc

sign_literal : (a b c d : Bool) → nat_eq (number (if a then start.Round else (if b then start.Square else (if c then start.Brace else (if d then start.Minus else start.Other))))) 0 ≡ true → ⊥
sign_literal true b c d e = cc
sign_literal false true c d e = cc
sign_literal false false true d e = cc
sign_literal false false false true e = cc
sign_literal false false false false e = cc

kind_prefix : (kind : TokenKind) → nat_eq (number (start_of_kind kind)) 6 ≡ true → KnownPrefix kind
unfolding start_of_keyword start_of_sign
kind_prefix (Word w) e = prefix_known w (keyword_tests (is_keyword w) (is_in w truths) (is_in w prefixes) (is_in w forms) 0 e)
kind_prefix (Sign s) e = absurd (sign_prefix (bytes_eq s (codes "(")) (bytes_eq s (codes "[")) (bytes_eq s (codes "{")) (bytes_eq s (codes "-")) e)
kind_prefix (Tag t) e = absurd cc
kind_prefix (Int n) e = absurd cc
kind_prefix (Text t) e = absurd cc

pub which_prefix : (t : Token) → begins start.Prefix t ≡ true → KnownPrefix t.kind
unfolding begins
which_prefix t e = kind_prefix t.kind e

-- ---- which tokens are literals

truth_written : (names : Names) (span : Span) (w : List ℕ) → is_in w truths ≡ true → Written names (of_node span (literal_node (Word w)))
truth_written names span w e =
    let P : List ℕ → Type 0 = λ z. Written names (of_node span (literal_node (Word z))) in
    one_of P w (codes "true") _ (bool_written names span true) (one_of P w (codes "false") _ (bool_written names span false) none_left) e

kind_literal : (names : Names) (span : Span) (kind : TokenKind) → IsGood kind → nat_eq (number (start_of_kind kind)) 0 ≡ true → Written names (of_node span (literal_node kind))
unfolding start_of_keyword start_of_sign
kind_literal names span (Word w) g e = truth_written names span w (literal_tests (is_keyword w) (is_in w truths) (is_in w prefixes) (is_in w forms) e)
kind_literal names span (Sign s) g e = absurd (sign_literal (bytes_eq s (codes "(")) (bytes_eq s (codes "[")) (bytes_eq s (codes "{")) (bytes_eq s (codes "-")) e)
kind_literal names span (Tag t) g e = absurd cc
kind_literal names span (Int n) g e = int_written names span n g
kind_literal names span (Text t) g e = text_written names span t g

pub literal_written : (names : Names) (span : Span) (t : Token) → IsGood t.kind → begins start.Literal t ≡ true → Written names (of_node span (literal_node t.kind))
unfolding begins
literal_written names span t g e = kind_literal names span t.kind g e

-- ---- which tokens are names

name_of_kind : (kind : TokenKind) → IsGood kind → is_name_kind kind ≡ true → IsNamed (text_of_kind kind)
name_of_kind (Word w) g e = record { free = e; good = g }
name_of_kind (Tag t) g e = absurd cc
name_of_kind (Int n) g e = absurd cc
name_of_kind (Text t) g e = absurd cc
name_of_kind (Sign s) g e = absurd cc

pub which_name : (t : Token) → IsGood t.kind → is_name t ≡ true → IsNamed (text_of_kind t.kind)
unfolding is_name
which_name t g e = name_of_kind t.kind g e

tag_of_kind : (kind : TokenKind) → IsGood kind → is_any_tag_kind kind ≡ true → IsGood (Tag (text_of_kind kind))
tag_of_kind (Word w) g e = absurd cc
tag_of_kind (Tag t) g e = g
tag_of_kind (Int n) g e = absurd cc
tag_of_kind (Text t) g e = absurd cc
tag_of_kind (Sign s) g e = absurd cc

pub which_tag : (t : Token) → IsGood t.kind → is_any_tag t ≡ true → IsGood (Tag (text_of_kind t.kind))
unfolding is_any_tag
which_tag t g e = tag_of_kind t.kind g e

-- a word of the text before an expression in parentheses, under the names in scope
pub prefixed_written : (names : Names) (t : Token) (span : Span) (e : Expr) → begins start.Prefix t ≡ true → Written names (scoped e names) → Written names (scoped (of_node span (prefix_node (text_of_kind t.kind) e)) names)
prefixed_written names t span e is r =
    let k = which_prefix t is in
    subst (Written names) (sym (ap (λ kind. scoped (of_node span (prefix_node (text_of_kind kind) e)) names) k.is ∙ ap (λ n. scoped (of_node span n) names) (k.prefix_of.gives e) ∙ k.prefix_of.resolves span e names)) (prefix_written names k.word k.made span (scoped e names) k.prefix_of r)
