-- Operators between two operands, and words before one in parentheses.
use Rattle.std.proofs.Common.{rules, ◌≡◌, ℕ, zero, suc, Bool, true, false, List, ◌∷◌, ◌++◌, refl, sym, ap, subst, ◌∙◌, ◌||◌}
use Rattle.std.proofs.lemmas.Bool.{eqb-true}
use Rattle.std.specs.Prelude.{codes, nat_eq, if◌then◌else◌}
use Rattle.std.specs.Str.{bytes_eq}
use Rattle.lk_ast.specs.Layers.{Layer}
use Rattle.lk_ast.specs.declared.expression.Expr.{Expr}
use Rattle.lk_ast.specs.declared.expression.Node.{Node, roll-Node}
use Rattle.lk_ast.specs.declared.expression.Node.TheOpen.{Node-F}
use Rattle.lk_ast.specs.declared.expression.Node.TheVariants as node
use Rattle.lk_ast.specs.declared.place.Span.{Span}
use Rattle.lk_ast.specs.declared.token.Token.{Token}
use Rattle.lk_ast.specs.declared.token.TokenKind.{TokenKind}
use Rattle.lk_ast.specs.declared.token.TokenKind.TheVariants.{Word, Tag, Int, Text, Sign}
use Rattle.lk_grammar.specs.Expressions.{IsExpr, IsAnd, IsComparison, IsJoin, IsSum, IsProduct, IsUnary, IsPostfix, IsPrimary}
use Rattle.lk_parts.specs.Operators.{comparisons, joins, sums, products, rank, level_of_kind, is_operator, level_of_sign, level_of_word, operator_node, comparison_node, join_node, sum_node, product_node}
use Rattle.lk_parts.specs.Parts.{takes_operator, takes_comparison, binary, between}
use Rattle.lk_parts.specs.declared.operators.Level.{Level}
use Rattle.lk_parts.specs.declared.operators.Level.TheVariants as level
use Rattle.lk_parts.specs.declared.part.Part.{Part}
use Rattle.lk_print.specs.Bare.{bare, bare_layer}
use Rattle.lk_print.specs.Good.{IsGood}
use Rattle.lk_print.specs.Printed.{form_of, node_form, compound}
use Rattle.lk_print.proofs.GoodKinds.{is_constant, constant_good}
use Rattle.lk_print.proofs.Goods.{good_append}
use Rattle.lk_print.proofs.Levels.{of_node, scoped_at, form_at, same_level, parts_scoped, parts_bare, parts_printed}
use Rattle.lk_print.proofs.Lists.{Each}
use Rattle.lk_print.proofs.Meant.{Written, unary_expr, compound_written}
use Rattle.lk_print.proofs.Spelled.{token, spelt_cons, spelt_append, spelt_so}
use Rattle.lk_read.specs.Keywords.{is_in}
use Rattle.lk_read.specs.Kinds.{text_of_kind}
use Rattle.lk_scope.specs.Names.{Names}
use Rattle.lk_scope.specs.Scoped.{scoped, node_in}

-- what an operator makes of its operands
pub record Operator (at : Level) (kind : TokenKind) (made : Expr → Expr → Node) : Type 0 where
  pub good : IsGood kind
  pub is : (span : Span) → is_operator at (token span kind) ≡ true
  pub gives : (a b : Expr) → operator_node at (text_of_kind kind) a b ≡ made a b
  pub prints : (span : Span) (a b : Expr) → form_of (of_node span (made a b)) ≡ compound ((form_of a).part ++ kind ∷ (form_of b).part)
  pub resolves : (span : Span) (a b : Expr) (names : Names) → scoped (of_node span (made a b)) names ≡ of_node span (made (scoped a names) (scoped b names))
  pub same : (s t : Span) (a b c d : Expr) → bare a ≡ bare c → bare b ≡ bare d → bare (of_node s (made a b)) ≡ bare (of_node t (made c d))

operator : (at : Level) (kind : TokenKind) (made : Expr → Expr → Node) (layer : Expr → Expr → Layer) → ((a b : Expr) → roll-Node (layer a b) ≡ made a b)
    → is_constant kind ≡ true → ((span : Span) → is_operator at (token span kind) ≡ true) → ((a b : Expr) → operator_node at (text_of_kind kind) a b ≡ made a b)
    → ((a b : Expr) → node_form (parts_printed (layer a b)) ≡ compound ((form_of a).part ++ kind ∷ (form_of b).part))
    → ((a b : Expr) (names : Names) → node_in (parts_scoped (layer a b)) names ≡ made (scoped a names) (scoped b names))
    → ((a b : Expr) → bare_layer (parts_bare (layer a b)) ≡ layer (bare a) (bare b)) → Operator at kind made
operator at kind made layer rolls good is gives prints resolves same = record {
  good = constant_good kind good;
  is = is;
  gives = gives;
  prints = λ span a b. ap (λ n. form_of (of_node span n)) (sym (rolls a b)) ∙ form_at span (layer a b) ∙ prints a b;
  resolves = λ span a b names. ap (λ n. scoped (of_node span n) names) (sym (rolls a b)) ∙ scoped_at span (layer a b) names ∙ ap (of_node span) (resolves a b names);
  same = λ s t a b c d p q. ap (λ n. bare (of_node s n)) (sym (rolls a b)) ∙ same_level s t (layer a b) (layer c d) (same a b ∙ (λ i. layer (p i) (q i)) ∙ sym (same c d)) ∙ ap (λ n. bare (of_node t n)) (rolls c d);
}

or_is : Operator level.Or (Sign (codes "||")) node.Or
unfolding is_operator level_of_sign
or_is = operator _ _ _ (λ a b. Node-F.Or a b) node.rolls-Or refl (λ span. refl) (λ a b. refl) (λ a b. refl) (λ a b names. refl) (λ a b. refl)

and_is : Operator level.And (Sign (codes "&&")) node.And
unfolding is_operator level_of_sign
and_is = operator _ _ _ (λ a b. Node-F.And a b) node.rolls-And refl (λ span. refl) (λ a b. refl) (λ a b. refl) (λ a b names. refl) (λ a b. refl)

eq_is : Operator level.Comparison (Sign (codes "==")) node.Eq
unfolding is_operator level_of_sign comparison_node
eq_is = operator _ _ _ (λ a b. Node-F.Eq a b) node.rolls-Eq refl (λ span. refl) (λ a b. refl) (λ a b. refl) (λ a b names. refl) (λ a b. refl)

ne_is : Operator level.Comparison (Sign (codes "<>")) node.Ne
unfolding is_operator level_of_sign comparison_node
ne_is = operator _ _ _ (λ a b. Node-F.Ne a b) node.rolls-Ne refl (λ span. refl) (λ a b. refl) (λ a b. refl) (λ a b names. refl) (λ a b. refl)

lt_is : Operator level.Comparison (Sign (codes "<")) node.Lt
unfolding is_operator level_of_sign comparison_node
lt_is = operator _ _ _ (λ a b. Node-F.Lt a b) node.rolls-Lt refl (λ span. refl) (λ a b. refl) (λ a b. refl) (λ a b names. refl) (λ a b. refl)

le_is : Operator level.Comparison (Sign (codes "<=")) node.Le
unfolding is_operator level_of_sign comparison_node
le_is = operator _ _ _ (λ a b. Node-F.Le a b) node.rolls-Le refl (λ span. refl) (λ a b. refl) (λ a b. refl) (λ a b names. refl) (λ a b. refl)

gt_is : Operator level.Comparison (Sign (codes ">")) node.Gt
unfolding is_operator level_of_sign comparison_node
gt_is = operator _ _ _ (λ a b. Node-F.Gt a b) node.rolls-Gt refl (λ span. refl) (λ a b. refl) (λ a b. refl) (λ a b names. refl) (λ a b. refl)

ge_is : Operator level.Comparison (Sign (codes ">=")) node.Ge
unfolding is_operator level_of_sign comparison_node
ge_is = operator _ _ _ (λ a b. Node-F.Ge a b) node.rolls-Ge refl (λ span. refl) (λ a b. refl) (λ a b. refl) (λ a b names. refl) (λ a b. refl)

cons_is : Operator level.Join (Sign (codes "::")) node.Cons
unfolding is_operator level_of_sign join_node
cons_is = operator _ _ _ (λ a b. Node-F.Cons a b) node.rolls-Cons refl (λ span. refl) (λ a b. refl) (λ a b. refl) (λ a b names. refl) (λ a b. refl)

append_is : Operator level.Join (Sign (codes "++")) node.Append
unfolding is_operator level_of_sign join_node
append_is = operator _ _ _ (λ a b. Node-F.Append a b) node.rolls-Append refl (λ span. refl) (λ a b. refl) (λ a b. refl) (λ a b names. refl) (λ a b. refl)

concat_is : Operator level.Join (Sign (codes "^^")) node.Concat
unfolding is_operator level_of_sign join_node
concat_is = operator _ _ _ (λ a b. Node-F.Concat a b) node.rolls-Concat refl (λ span. refl) (λ a b. refl) (λ a b. refl) (λ a b names. refl) (λ a b. refl)

add_is : Operator level.Sum (Sign (codes "+")) node.Add
unfolding is_operator level_of_sign sum_node
add_is = operator _ _ _ (λ a b. Node-F.Add a b) node.rolls-Add refl (λ span. refl) (λ a b. refl) (λ a b. refl) (λ a b names. refl) (λ a b. refl)

sub_is : Operator level.Sum (Sign (codes "-")) node.Sub
unfolding is_operator level_of_sign sum_node
sub_is = operator _ _ _ (λ a b. Node-F.Sub a b) node.rolls-Sub refl (λ span. refl) (λ a b. refl) (λ a b. refl) (λ a b names. refl) (λ a b. refl)

mul_is : Operator level.Product (Sign (codes "*")) node.Mul
unfolding is_operator level_of_sign product_node
mul_is = operator _ _ _ (λ a b. Node-F.Mul a b) node.rolls-Mul refl (λ span. refl) (λ a b. refl) (λ a b. refl) (λ a b names. refl) (λ a b. refl)

div_is : Operator level.Product (Sign (codes "/")) node.Div
unfolding is_operator level_of_sign product_node
div_is = operator _ _ _ (λ a b. Node-F.Div a b) node.rolls-Div refl (λ span. refl) (λ a b. refl) (λ a b. refl) (λ a b names. refl) (λ a b. refl)

mod_is : Operator level.Product (Word (codes "mod")) node.Mod
unfolding is_operator level_of_word product_node
mod_is = operator _ _ _ (λ a b. Node-F.Mod a b) node.rolls-Mod refl (λ span. refl) (λ a b. refl) (λ a b. refl) (λ a b names. refl) (λ a b. refl)

-- ---- the tokens that are operators

pub record Known (at : Level) (kind : TokenKind) : Type 0 where
  pub made : Expr → Expr → Node
  pub operator : Operator at kind made

known : {at : Level} {kind : TokenKind} {made : Expr → Expr → Node} → Operator at kind made → Known at kind
known op = record { made = _; operator = op }

pub same_bytes : (s t : List ℕ) → bytes_eq s t ≡ true → s ≡ t
same_bytes s t e = search rules

pub one_of : (P : List ℕ → Type 0) (s c : List ℕ) (rest : Bool) → P c → (rest ≡ true → P s) → bytes_eq s c || rest ≡ true → P s
one_of P s c rest this others e = go (bytes_eq s c) refl e
  where
    go : (b : Bool) → bytes_eq s c ≡ b → b || rest ≡ true → P s
    go true is e = subst P (sym (same_bytes s c is)) this
    go false is e = others e

pub none_left : {X : Type 0} → false ≡ true → X
none_left e = absurd cc

comparison_known : (s : List ℕ) → is_in s comparisons ≡ true → Known level.Comparison (Sign s)
comparison_known s e =
    let P : List ℕ → Type 0 = λ z. Known level.Comparison (Sign z) in
    one_of P s (codes "==") _ (known eq_is) (one_of P s (codes "<>") _ (known ne_is) (one_of P s (codes "<") _ (known lt_is) (one_of P s (codes "<=") _ (known le_is) (one_of P s (codes ">") _ (known gt_is) (one_of P s (codes ">=") _ (known ge_is) none_left))))) e

join_known : (s : List ℕ) → is_in s joins ≡ true → Known level.Join (Sign s)
join_known s e =
    let P : List ℕ → Type 0 = λ z. Known level.Join (Sign z) in
    one_of P s (codes "::") _ (known cons_is) (one_of P s (codes "++") _ (known append_is) (one_of P s (codes "^^") _ (known concat_is) none_left)) e

sum_known : (s : List ℕ) → is_in s sums ≡ true → Known level.Sum (Sign s)
sum_known s e =
    let P : List ℕ → Type 0 = λ z. Known level.Sum (Sign z) in
    one_of P s (codes "+") _ (known add_is) (one_of P s (codes "-") _ (known sub_is) none_left) e

product_known : (s : List ℕ) → is_in s products ≡ true → Known level.Product (Sign s)
product_known s e =
    let P : List ℕ → Type 0 = λ z. Known level.Product (Sign z) in
    one_of P s (codes "*") _ (known mul_is) (one_of P s (codes "/") _ (known div_is) none_left) e

word_known : (w : List ℕ) → bytes_eq w (codes "mod") ≡ true → Known level.Product (Word w)
word_known w e = subst (λ z. Known level.Product (Word z)) (sym (same_bytes w (codes "mod") e)) (known mod_is)

-- which of six tests it was that gave a level
abbrev chosen : (a b c d e f : Bool) → ℕ
chosen a b c d e f = if a then 1 else (if b then 2 else (if c then 3 else (if d then 4 else (if e then 5 else (if f then 6 else 0)))))

abbrev test_at : Level → (a b c d e f : Bool) → Bool
test_at level.Or a b c d e f = a
test_at level.And a b c d e f = b
test_at level.Comparison a b c d e f = c
test_at level.Join a b c d e f = d
test_at level.Sum a b c d e f = e
test_at level.Product a b c d e f = f

level_at : ℕ → Level
level_at zero = level.Or
level_at (suc zero) = level.Or
level_at (suc (suc zero)) = level.And
level_at (suc (suc (suc zero))) = level.Comparison
level_at (suc (suc (suc (suc zero)))) = level.Join
level_at (suc (suc (suc (suc (suc zero))))) = level.Sum
level_at (suc (suc (suc (suc (suc (suc n)))))) = level.Product

level_ranked : (at : Level) → level_at (rank at) ≡ at
unfolding level_at
level_ranked level.Or = refl
level_ranked level.And = refl
level_ranked level.Comparison = refl
level_ranked level.Join = refl
level_ranked level.Sum = refl
level_ranked level.Product = refl

chosen_passes : (a b c d e f : Bool) → nat_eq (chosen a b c d e f) 0 ≡ false → test_at (level_at (chosen a b c d e f)) a b c d e f ≡ true
unfolding level_at
chosen_passes true b c d e f some = refl
chosen_passes false true c d e f some = refl
chosen_passes false false true d e f some = refl
chosen_passes false false false true e f some = refl
chosen_passes false false false false true f some = refl
chosen_passes false false false false false true some = refl
chosen_passes false false false false false false some = absurd cc

some_level : (at : Level) → nat_eq (rank at) 0 ≡ false
some_level level.Or = refl
some_level level.And = refl
some_level level.Comparison = refl
some_level level.Join = refl
some_level level.Sum = refl
some_level level.Product = refl

no_level : (at : Level) → nat_eq 0 (rank at) ≡ true → ⊥
no_level level.Or e = cc
no_level level.And e = cc
no_level level.Comparison e = cc
no_level level.Join e = cc
no_level level.Sum e = cc
no_level level.Product e = cc

test_passes : (at : Level) (a b c d e f : Bool) → nat_eq (chosen a b c d e f) (rank at) ≡ true → test_at at a b c d e f ≡ true
test_passes at a b c d e f is =
    let n : chosen a b c d e f ≡ rank at = eqb-true (chosen a b c d e f) (rank at) is in
    ap (λ l. test_at l a b c d e f) (sym (ap level_at n ∙ level_ranked at)) ∙ chosen_passes a b c d e f (ap (λ z. nat_eq z 0) n ∙ some_level at)

by_test : (at : Level) (s : List ℕ) → test_at at (bytes_eq s (codes "||")) (bytes_eq s (codes "&&")) (is_in s comparisons) (is_in s joins) (is_in s sums) (is_in s products) ≡ true → Known at (Sign s)
by_test level.Or s e = subst (λ z. Known level.Or (Sign z)) (sym (same_bytes s (codes "||") e)) (known or_is)
by_test level.And s e = subst (λ z. Known level.And (Sign z)) (sym (same_bytes s (codes "&&") e)) (known and_is)
by_test level.Comparison s e = comparison_known s e
by_test level.Join s e = join_known s e
by_test level.Sum s e = sum_known s e
by_test level.Product s e = product_known s e

by_word : (at : Level) (w : List ℕ) (is : Bool) → bytes_eq w (codes "mod") ≡ is → nat_eq (if is then 6 else 0) (rank at) ≡ true → Known at (Word w)
by_word level.Product w true is e = word_known w is
by_word level.Or w true is e = absurd cc
by_word level.And w true is e = absurd cc
by_word level.Comparison w true is e = absurd cc
by_word level.Join w true is e = absurd cc
by_word level.Sum w true is e = absurd cc
by_word at w false is e = absurd (no_level at e)

by_kind : (at : Level) (kind : TokenKind) → nat_eq (level_of_kind kind) (rank at) ≡ true → Known at kind
unfolding level_of_sign level_of_word
by_kind at (Sign s) e = by_test at s (test_passes at _ _ _ _ _ _ e)
by_kind at (Word w) e = by_word at w (bytes_eq w (codes "mod")) refl e
by_kind at (Tag t) e = absurd (no_level at e)
by_kind at (Int n) e = absurd (no_level at e)
by_kind at (Text t) e = absurd (no_level at e)

pub which_operator : (at : Level) (t : Token) → is_operator at t ≡ true → Known at t.kind
unfolding is_operator
which_operator at t e = by_kind at t.kind e

-- ---- one of them is read between two primaries

between_parts : (at : Level) (u v : List Token) (s : Token) (a b : Part) → IsPrimary u a → takes_operator a ≡ true → takes_comparison a ≡ true → is_operator at s ≡ true → IsPrimary v b → IsExpr (u ++ s ∷ v) (binary at a s b)
between_parts level.Or u v s a b d o c is e = IsExpr.disjunction s (unary_expr (IsUnary.postfix (IsPostfix.primary d))) o is (IsAnd.comparison_level (IsComparison.join_level (IsJoin.sum_level (IsSum.product_level (IsProduct.unary_level (IsUnary.postfix (IsPostfix.primary e)))))))
between_parts level.And u v s a b d o c is e = IsExpr.and_level (IsAnd.conjunction s (IsAnd.comparison_level (IsComparison.join_level (IsJoin.sum_level (IsSum.product_level (IsProduct.unary_level (IsUnary.postfix (IsPostfix.primary d))))))) o is (IsComparison.join_level (IsJoin.sum_level (IsSum.product_level (IsProduct.unary_level (IsUnary.postfix (IsPostfix.primary e)))))))
between_parts level.Comparison u v s a b d o c is e = IsExpr.and_level (IsAnd.comparison_level (IsComparison.comparison s (IsJoin.sum_level (IsSum.product_level (IsProduct.unary_level (IsUnary.postfix (IsPostfix.primary d))))) c is (IsJoin.sum_level (IsSum.product_level (IsProduct.unary_level (IsUnary.postfix (IsPostfix.primary e)))))))
between_parts level.Join u v s a b d o c is e = IsExpr.and_level (IsAnd.comparison_level (IsComparison.join_level (IsJoin.join s (IsSum.product_level (IsProduct.unary_level (IsUnary.postfix (IsPostfix.primary d)))) o is (IsJoin.sum_level (IsSum.product_level (IsProduct.unary_level (IsUnary.postfix (IsPostfix.primary e))))))))
between_parts level.Sum u v s a b d o c is e = IsExpr.and_level (IsAnd.comparison_level (IsComparison.join_level (IsJoin.sum_level (IsSum.sum s (IsSum.product_level (IsProduct.unary_level (IsUnary.postfix (IsPostfix.primary d)))) o is (IsProduct.unary_level (IsUnary.postfix (IsPostfix.primary e)))))))
between_parts level.Product u v s a b d o c is e = IsExpr.and_level (IsAnd.comparison_level (IsComparison.join_level (IsJoin.sum_level (IsSum.product_level (IsProduct.product s (IsProduct.unary_level (IsUnary.postfix (IsPostfix.primary d))) o is (IsUnary.postfix (IsPostfix.primary e)))))))

pub operator_written : (names : Names) (at : Level) (kind : TokenKind) (made : Expr → Expr → Node) (span : Span) (a b : Expr) → Operator at kind made → Written names a → Written names b → Written names (of_node span (made a b))
operator_written names at kind made span a b op p q = compound_written names (of_node span (made a b)) _ (op.prints span a b) (good_append (form_of a).part p.good_part (Each.also op.good q.good_part)) (spelt_append (form_of a).part p.part (λ u x. spelt_cons (λ place. spelt_so q.part (λ v y. record {
  part = binary at x.part (token place kind) y.part;
  is = between_parts at u v (token place kind) x.part y.part x.is x.operator x.comparison (op.is place) y.is;
  same = ap (λ n. bare (scoped (of_node (between x.part.from y.part.to) n) names)) (op.gives x.part.expr y.part.expr) ∙ ap bare (op.resolves (between x.part.from y.part.to) x.part.expr y.part.expr names) ∙ op.same _ _ _ _ _ _ x.same y.same;
}))))

-- an operator of the text, under the names in scope
pub binary_written : (names : Names) (at : Level) (s : Token) (span : Span) (a b : Expr) → is_operator at s ≡ true → Written names (scoped a names) → Written names (scoped b names) → Written names (scoped (of_node span (operator_node at (text_of_kind s.kind) a b)) names)
binary_written names at s span a b is p q =
    let k = which_operator at s is in
    subst (Written names) (sym (ap (λ n. scoped (of_node span n) names) (k.operator.gives a b) ∙ k.operator.resolves span a b names)) (operator_written names at s.kind k.made span (scoped a names) (scoped b names) k.operator p q)
