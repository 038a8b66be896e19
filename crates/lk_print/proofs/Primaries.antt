-- What is printed of literals, names, tags, records, lists and words before parentheses.
use Rattle.std.proofs.Common.{◌≡◌, ℕ, Bool, true, false, List, [], ◌∷◌, ◌++◌, map, refl, sym, ap, subst, ◌∙◌, append_assoc}
use Rattle.std.specs.Prelude.{ℤ, not, codes, if◌then◌else◌}
use Rattle.lk_ast.specs.Layers.{Layer}
use Rattle.lk_ast.specs.declared.expression.Expr.{Expr}
use Rattle.lk_ast.specs.declared.expression.Node.{Node, roll-Node}
use Rattle.lk_ast.specs.declared.expression.Node.TheOpen.{Node-F}
use Rattle.lk_ast.specs.declared.expression.Node.TheVariants as node
use Rattle.lk_ast.specs.declared.expression.PartExpr.{PartExpr}
use Rattle.lk_ast.specs.declared.place.Span.{Span}
use Rattle.lk_ast.specs.declared.place.Word.{Word as Named}
use Rattle.lk_ast.specs.declared.token.Token.{Token}
use Rattle.lk_ast.specs.declared.token.TokenKind.{TokenKind}
use Rattle.lk_ast.specs.declared.token.TokenKind.TheVariants.{Word, Tag, Int, Text, Sign}
use Rattle.lk_read.specs.Kinds.{IsName, IsAnyTag, is_name, is_any_tag, word_of}
use Rattle.lk_read.specs.Keywords.{is_keyword}
use Rattle.lk_grammar.specs.Expressions.{IsExpr, IsPrimary, IsArgs, IsSome, IsParts, IsPart}
use Rattle.lk_parts.specs.Parts.{literal, named, tagged, record_of, extended, list_of, part_of}
use Rattle.lk_parts.specs.Starts.{begins, start_of_keyword}
use Rattle.lk_parts.specs.declared.part.Part.{Part}
use Rattle.lk_parts.specs.declared.starts.Start.TheVariants as start
use Rattle.lk_print.specs.Bare.{bare, bare_word}
use Rattle.lk_print.specs.Good.{IsGood}
use Rattle.lk_print.specs.Printed.{Kinds, Form, form_of, primary, in_round, separated, name_kind, node_form, print_part}
use Rattle.lk_print.proofs.GoodKinds.{constant_good}
use Rattle.lk_print.proofs.Goods.{Good, constant, good_append, good_round, good_square, good_separated}
use Rattle.lk_print.proofs.Levels.{of_node, elsewhere, same_of, form_is, scoped_is, parts_scoped, parts_printed, bare_part, bare_part_is, scoped_part_is, print_part_is}
use Rattle.lk_print.proofs.Lists.{Each, map_map, ReadsOne, commas}
use Rattle.lk_print.proofs.Meant.{Written, primary_written}
use Rattle.lk_print.proofs.Spelled.{Spelt, token, spelt_none, spelt_cons, spelt_append, spelt_so, spelt_as}
use Rattle.lk_scope.specs.Names.{Names, is_local}
use Rattle.lk_scope.specs.Scoped.{scoped, all_in, node_in, word_node, scoped_part}

-- ---- lists of expressions

-- an argument, and what it means
abbrev IsArg : List Token → Expr → Type 0
IsArg w x = (p : Part) × IsExpr w p × (p.expr ≡ x)

first_arg : (w : List Token) (x : Expr) → IsArg w x → IsSome w (x ∷ [])
first_arg w x a = subst (λ z. IsSome w (z ∷ [])) a.2 (IsSome.first_arg a.1)

next_arg : (u w : List Token) (s : Token) (xs : List Expr) (x : Expr) → IsSome u xs → s.kind ≡ Sign (codes ",") → IsArg w x → IsSome (u ++ s ∷ w) (xs ++ x ∷ [])
next_arg u w s xs x d is a = subst (λ z. IsSome (u ++ s ∷ w) (xs ++ z ∷ [])) a.2 (IsSome.next_arg s d is a.1)

-- what an expression means, without its places
abbrev pub meaning : Names → Expr → Expr
meaning names e = bare (scoped e names)

one_arg : (names : Names) (s : Expr) → Written names s → Spelt (form_of s).alone (ReadsOne IsArg (meaning names) (bare s))
one_arg names s r = spelt_so r.alone (λ w a. record { x = a.part.expr; is = (a.part, a.is, refl); same = a.same })

each_arg : (names : Names) (ss : List Expr) → Each (Written names) ss → Each (λ s. Spelt (form_of s).alone (ReadsOne IsArg (meaning names) (bare s))) ss
each_arg names [] Each.none = Each.none
each_arg names (s ∷ ss) (Each.also p ps) = Each.also (one_arg names s p) (each_arg names ss ps)

some_to_args : (names : Names) (ys : List Expr) (w : List Token) → ReadsOne IsSome (map (meaning names)) ys w → ReadsOne IsArgs (map (meaning names)) ys w
some_to_args names ys w r = record { x = r.x; is = IsArgs.some_args r.is; same = r.same }

alones : (ss : List Expr) → map (λ (f : Form). f.alone) (map form_of ss) ≡ map (λ s. (form_of s).alone) ss
alones ss = map_map (λ (f : Form). f.alone) form_of ss

pub args_written : (names : Names) (ss : List Expr) → Each (Written names) ss → Spelt (separated (map (λ f. f.alone) (map form_of ss))) (ReadsOne IsArgs (map (meaning names)) (map bare ss))
args_written names [] each = spelt_none (record { x = []; is = IsArgs.no_args; same = refl })
args_written names (s ∷ ss) each = spelt_as (ap separated (alones (s ∷ ss))) (spelt_so
    (commas IsArg IsSome first_arg next_arg (meaning names) bare (λ s. (form_of s).alone) s ss (each_arg names (s ∷ ss) each))
    (some_to_args names (map bare (s ∷ ss))))

each_good : (names : Names) (ss : List Expr) → Each (Written names) ss → Each Good (map (λ (f : Form). f.alone) (map form_of ss))
each_good names [] Each.none = Each.none
each_good names (s ∷ ss) (Each.also p ps) = Each.also p.good_alone (each_good names ss ps)

pub args_good : (names : Names) (ss : List Expr) → Each (Written names) ss → Good (separated (map (λ f. f.alone) (map form_of ss)))
args_good names ss each = good_separated _ (each_good names ss each)

-- expressions under the names, one by one
pub all_meant : (names : Names) (es ss : List Expr) → map (meaning names) es ≡ map bare ss → map bare (all_in names (map scoped es)) ≡ map bare ss
all_meant names es ss same = ap (map bare) (map_map (λ f. f names) scoped es) ∙ map_map bare (λ e. scoped e names) es ∙ same

-- ---- names and tags

-- a word that can name something
pub record IsNamed (x : List ℕ) : Type 0 where
  pub free : not (is_keyword x) ≡ true
  pub good : IsGood (Word x)

pub named_token : (at : Span) (x : List ℕ) → IsNamed x → IsName (token at (Word x))
unfolding is_name
named_token at x e = e.free

pub tag_token : (at : Span) (x : List ℕ) → IsAnyTag (token at (Tag x))
unfolding is_any_tag
tag_token at x = refl

pub bare_name : (at : Span) (x : Named) → bare_word (word_of (token at (Word x.text))) ≡ bare_word x
unfolding word_of
bare_name at x = refl

pub bare_tag_word : (at : Span) (x : Named) → bare_word (word_of (token at (Tag x.text))) ≡ bare_word x
unfolding word_of
bare_tag_word at x = refl

-- ---- l = e

pub record WrittenPart (names : Names) (s : PartExpr) : Type 0 where
  pub label : IsNamed s.label.text
  pub expr : Written names s.expr

abbrev pub part_meaning : Names → PartExpr → PartExpr
part_meaning names part = bare_part (scoped_part part names)

one_part : (names : Names) (s : PartExpr) → WrittenPart names s → Spelt (print_part s) (ReadsOne IsPart (part_meaning names) (bare_part s))
one_part names s r = spelt_as (print_part_is s) (spelt_cons (λ l. spelt_cons (λ q. spelt_so r.expr.alone (λ w a. record {
  x = part_of (word_of (token l (name_kind s.label))) a.part;
  is = IsPart.set (token l (name_kind s.label)) (token q (Sign (codes "="))) (named_token l s.label.text r.label) refl a.is;
  same = ap bare_part (scoped_part_is _ names) ∙ bare_part_is _ ∙ (λ i. record { label = bare_name l s.label i; expr = a.same i }) ∙ sym (bare_part_is s);
}))))

each_part : (names : Names) (ss : List PartExpr) → Each (WrittenPart names) ss → Each (λ s. Spelt (print_part s) (ReadsOne IsPart (part_meaning names) (bare_part s))) ss
each_part names [] Each.none = Each.none
each_part names (s ∷ ss) (Each.also p ps) = Each.also (one_part names s p) (each_part names ss ps)

pub parts_written : (names : Names) (s : PartExpr) (ss : List PartExpr) → Each (WrittenPart names) (s ∷ ss) → Spelt (separated (map print_part (s ∷ ss))) (ReadsOne IsParts (map (part_meaning names)) (map bare_part (s ∷ ss)))
parts_written names s ss each = commas IsPart IsParts (λ w x d. IsParts.first_part d) (λ u w t xs x d is e. IsParts.next_part t d is e) (part_meaning names) bare_part print_part s ss (each_part names (s ∷ ss) each)

each_part_good : (names : Names) (ss : List PartExpr) → Each (WrittenPart names) ss → Each Good (map print_part ss)
each_part_good names [] Each.none = Each.none
each_part_good names (s ∷ ss) (Each.also p ps) = Each.also (subst Good (sym (print_part_is s)) (Each.also p.label.good (constant refl p.expr.good_alone))) (each_part_good names ss ps)

pub parts_good : (names : Names) (ss : List PartExpr) → Each (WrittenPart names) ss → Good (separated (map print_part ss))
parts_good names ss each = good_separated _ (each_part_good names ss each)

pub all_parts_meant : (names : Names) (es ss : List PartExpr) → map (part_meaning names) es ≡ map bare_part ss → map bare_part (all_in names (map scoped_part es)) ≡ map bare_part ss
all_parts_meant names es ss same = ap (map bare_part) (map_map (λ f. f names) scoped_part es) ∙ map_map bare_part (λ e. scoped_part e names) es ∙ same

-- ---- literals and names

leaf : (names : Names) (span : Span) (n : Node) (l : Layer) (t : TokenKind) → roll-Node l ≡ n → node_form (parts_printed l) ≡ primary (t ∷ []) → IsGood t
    → ((at : Span) → begins start.Literal (token at t) ≡ true) → ((at : Span) → (literal (token at t)).expr ≡ of_node at n) → node_in (parts_scoped l) names ≡ n → Written names (of_node span n)
leaf names span n l t rolls prints good is gives resolves = primary_written names (of_node span n) (t ∷ []) (form_is span n l rolls ∙ prints) (Each.also good Each.none) (spelt_cons (λ at. spelt_none (record {
  part = literal (token at t);
  is = IsPrimary.literal_token (token at t) (is at);
  operator = refl;
  comparison = refl;
  call = refl;
  same = ap (λ e. bare (scoped e names)) (gives at) ∙ same_of names at span n n l l l rolls (resolves ∙ sym rolls) rolls refl;
})))

pub int_written : (names : Names) (span : Span) (n : ℤ) → IsGood (Int n) → Written names (of_node span (node.Int n))
unfolding begins
int_written names span n g = leaf names span (node.Int n) (Node-F.Int n) (Int n) (node.rolls-Int n) refl g (λ at. refl) (λ at. refl) refl

pub text_written : (names : Names) (span : Span) (x : List ℕ) → IsGood (Text x) → Written names (of_node span (node.Text x))
unfolding begins
text_written names span x g = leaf names span (node.Text x) (Node-F.Text x) (Text x) (node.rolls-Text x) refl g (λ at. refl) (λ at. refl) refl

pub bool_written : (names : Names) (span : Span) (b : Bool) → Written names (of_node span (node.Bool b))
unfolding begins is_keyword start_of_keyword
bool_written names span true = leaf names span (node.Bool true) (Node-F.Bool true) (Word (codes "true")) (node.rolls-Bool true) refl (constant_good _ refl) (λ at. refl) (λ at. refl) refl
bool_written names span false = leaf names span (node.Bool false) (Node-F.Bool false) (Word (codes "false")) (node.rolls-Bool false) refl (constant_good _ refl) (λ at. refl) (λ at. refl) refl

word_form : (span : Span) (x : List ℕ) (b : Bool) → form_of (of_node span (if b then node.Name x else node.Function x)) ≡ primary (Word x ∷ [])
word_form span x true = form_is span (node.Name x) (Node-F.Name x) (node.rolls-Name x)
word_form span x false = form_is span (node.Function x) (Node-F.Function x) (node.rolls-Function x)

pub name_written : (names : Names) (span : Span) (x : List ℕ) → IsNamed x → Written names (of_node span (word_node names x))
name_written names span x h = primary_written names (of_node span (word_node names x)) (Word x ∷ []) (word_form span x (is_local names x)) (Each.also h.good Each.none) (spelt_cons (λ at. spelt_none (record {
  part = named (token at (Word x));
  is = IsPrimary.name (token at (Word x)) (named_token at x h);
  operator = refl;
  comparison = refl;
  call = refl;
  same = ap bare (scoped_is at (node.Name x) (Node-F.Name x) names (node.rolls-Name x)) ∙ elsewhere at span (word_node names x);
})))

-- ---- tags

pub tag_written : (names : Names) (span : Span) (t : Named) (e : Expr) → IsGood (Tag t.text) → Written names e → Written names (of_node span (node.Tag t e))
tag_written names span t e g r = primary_written names (of_node span (node.Tag t e)) _ (form_is span (node.Tag t e) (Node-F.Tag t e) (node.rolls-Tag t e)) (Each.also g (good_round (form_of e).alone r.good_alone)) (spelt_cons (λ k. spelt_cons (λ o. spelt_append (form_of e).alone r.alone (λ u a. spelt_cons (λ c. spelt_none (record {
  part = tagged (token k (Tag t.text)) a.part (token c (Sign (codes ")")));
  is = IsPrimary.tag_of (token k (Tag t.text)) (token o (Sign (codes "("))) (token c (Sign (codes ")"))) (tag_token k t.text) refl a.is refl;
  operator = refl;
  comparison = refl;
  call = refl;
  same = same_of names _ span _ (node.Tag t e) (Node-F.Tag _ a.part.expr) (Node-F.Tag _ (scoped a.part.expr names)) (Node-F.Tag t e) (node.rolls-Tag _ _) (sym (node.rolls-Tag _ _)) (node.rolls-Tag t e) (λ i. Node-F.Tag (bare_tag_word k t i) (a.same i));
}))))))

-- ---- records and lists

pub record_written : (names : Names) (span : Span) (ss : List PartExpr) → Each (WrittenPart names) ss → Written names (of_node span (node.Record ss))
record_written names span [] each = primary_written names (of_node span (node.Record [])) _ (form_is span (node.Record []) (Node-F.Record []) (node.rolls-Record [])) (constant refl (constant refl Each.none)) (spelt_cons (λ o. spelt_cons (λ c. spelt_none (record {
  part = record_of (token o (Sign (codes "("))) [] (token c (Sign (codes ")")));
  is = IsPrimary.unit (token o (Sign (codes "("))) (token c (Sign (codes ")"))) refl refl;
  operator = refl;
  comparison = refl;
  call = refl;
  same = same_of names _ span _ (node.Record []) (Node-F.Record []) (Node-F.Record []) (Node-F.Record []) (node.rolls-Record []) (sym (node.rolls-Record [])) (node.rolls-Record []) refl;
}))))
record_written names span (s ∷ ss) each = primary_written names (of_node span (node.Record (s ∷ ss))) _ (form_is span (node.Record (s ∷ ss)) (Node-F.Record (s ∷ ss)) (node.rolls-Record (s ∷ ss))) (good_round (separated (map print_part (s ∷ ss))) (parts_good names (s ∷ ss) each)) (spelt_cons (λ o. spelt_append (separated (map print_part (s ∷ ss))) (parts_written names s ss each) (λ u m. spelt_cons (λ c. spelt_none (record {
  part = record_of (token o (Sign (codes "("))) m.x (token c (Sign (codes ")")));
  is = IsPrimary.fields (token o (Sign (codes "("))) (token c (Sign (codes ")"))) refl m.is refl;
  operator = refl;
  comparison = refl;
  call = refl;
  same = same_of names _ span _ (node.Record (s ∷ ss)) (Node-F.Record m.x) (Node-F.Record (all_in names (map scoped_part m.x))) (Node-F.Record (s ∷ ss)) (node.rolls-Record m.x) (sym (node.rolls-Record _)) (node.rolls-Record (s ∷ ss)) (ap (λ z. Node-F.Record z) (all_parts_meant names m.x (s ∷ ss) m.same));
})))))

pub extension_written : (names : Names) (span : Span) (s : PartExpr) (ss : List PartExpr) (e : Expr) → Each (WrittenPart names) (s ∷ ss) → Written names e → Written names (of_node span (node.Extend (s ∷ ss) e))
extension_written names span s ss e each r = primary_written names (of_node span (node.Extend (s ∷ ss) e)) _ (form_is span (node.Extend (s ∷ ss) e) (Node-F.Extend (s ∷ ss) e) (node.rolls-Extend (s ∷ ss) e)) (good_round _ (good_append (separated (map print_part (s ∷ ss))) (parts_good names (s ∷ ss) each) (constant refl r.good_alone))) (spelt_as (regrouped (separated (map print_part (s ∷ ss))) (form_of e).alone) (spelt_cons (λ o. spelt_append (separated (map print_part (s ∷ ss))) (parts_written names s ss each) (λ u m. spelt_cons (λ b. spelt_append (form_of e).alone r.alone (λ v a. spelt_cons (λ c. spelt_none (record {
  part = extended (token o (Sign (codes "("))) m.x a.part (token c (Sign (codes ")")));
  is = IsPrimary.extension (token o (Sign (codes "("))) (token b (Sign (codes "|"))) (token c (Sign (codes ")"))) refl m.is refl a.is refl;
  operator = refl;
  comparison = refl;
  call = refl;
  same = same_of names _ span _ (node.Extend (s ∷ ss) e) (Node-F.Extend m.x a.part.expr) (Node-F.Extend (all_in names (map scoped_part m.x)) (scoped a.part.expr names)) (Node-F.Extend (s ∷ ss) e) (node.rolls-Extend m.x a.part.expr) (sym (node.rolls-Extend _ _)) (node.rolls-Extend (s ∷ ss) e) (λ i. Node-F.Extend (all_parts_meant names m.x (s ∷ ss) m.same i) (a.same i));
}))))))))
  where
    regrouped : (x y : Kinds) → in_round (x ++ Sign (codes "|") ∷ y) ≡ Sign (codes "(") ∷ (x ++ Sign (codes "|") ∷ (y ++ Sign (codes ")") ∷ []))
    regrouped x y = ap (λ z. Sign (codes "(") ∷ z) (append_assoc x (Sign (codes "|") ∷ y) (Sign (codes ")") ∷ []))

pub list_written : (names : Names) (span : Span) (ss : List Expr) → Each (Written names) ss → Written names (of_node span (node.List ss))
list_written names span ss each = primary_written names (of_node span (node.List ss)) _ (form_is span (node.List ss) (Node-F.List ss) (node.rolls-List ss)) (good_square _ (args_good names ss each)) (spelt_cons (λ o. spelt_append (separated (map (λ (f : Form). f.alone) (map form_of ss))) (args_written names ss each) (λ u m. spelt_cons (λ c. spelt_none (record {
  part = list_of (token o (Sign (codes "["))) m.x (token c (Sign (codes "]")));
  is = IsPrimary.list (token o (Sign (codes "["))) (token c (Sign (codes "]"))) refl m.is refl;
  operator = refl;
  comparison = refl;
  call = refl;
  same = same_of names _ span _ (node.List ss) (Node-F.List m.x) (Node-F.List (all_in names (map scoped m.x))) (Node-F.List ss) (node.rolls-List m.x) (sym (node.rolls-List _)) (node.rolls-List ss) (ap (λ z. Node-F.List z) (all_meant names m.x ss m.same));
})))))
