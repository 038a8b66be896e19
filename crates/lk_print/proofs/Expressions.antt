-- What is printed of an expression of the grammar is read as one that means the same, production by production.
use Rattle.std.proofs.Common.{◌≡◌, ℕ, true, false, List, [], ◌∷◌, ◌++◌, Option, Some, None, map, refl, sym, ap, subst, ◌∙◌}
use Rattle.std.specs.Option.{option_map}
use Rattle.lk_ast.specs.Layers.{statement_node}
use Rattle.lk_ast.specs.declared.expression.Case.{Case}
use Rattle.lk_ast.specs.declared.expression.Expr.{Expr}
use Rattle.lk_ast.specs.declared.expression.LambdaExpr.{LambdaExpr}
use Rattle.lk_ast.specs.declared.expression.LastCase.{LastCase}
use Rattle.lk_ast.specs.declared.expression.Node.TheOpen.{Node-F}
use Rattle.lk_ast.specs.declared.expression.Node.TheVariants as node
use Rattle.lk_ast.specs.declared.expression.PartExpr.{PartExpr}
use Rattle.lk_ast.specs.declared.expression.SortKey.{SortKey}
use Rattle.lk_ast.specs.declared.place.Span.{Span}
use Rattle.lk_ast.specs.declared.place.Word.{Word as Named}
use Rattle.lk_ast.specs.declared.token.Token.{Token}
use Rattle.lk_ast.specs.declared.token.TokenKind.{TokenKind}
use Rattle.lk_ast.specs.declared.token.TokenKind.TheVariants.{Word, Tag, Int, Text, Sign}
use Rattle.lk_read.specs.Kinds.{IsName, IsAnyTag, word_of, text_of_kind}
use Rattle.lk_grammar.specs.Expressions.{IsNames, IsParams, IsKey, IsKeys, IsOrder, IsExpr, IsAnd, IsComparison, IsJoin, IsSum, IsProduct, IsUnary, IsPostfix, IsPrimary, IsArgs, IsSome, IsParts, IsPart, IsBlock, IsStatements, IsForm, IsChange, IsCases, IsCase}
use Rattle.lk_parts.proofs.Chains.{chain_back}
use Rattle.lk_parts.specs.Parts.{chain, expr_of, is_nil, some_case, var_statement, plain_statement, between, hidden_unit, literal_node}
use Rattle.lk_parts.specs.Starts.{begins}
use Rattle.lk_parts.specs.declared.operators.Level.TheVariants as level
use Rattle.lk_parts.specs.declared.part.Cases.{Cases}
use Rattle.lk_parts.specs.declared.part.Change.{Change}
use Rattle.lk_parts.specs.declared.part.Part.{Part}
use Rattle.lk_parts.specs.declared.part.Statement.{Statement}
use Rattle.lk_parts.specs.declared.starts.Start.TheVariants as start
use Rattle.lk_print.specs.Good.{IsGood}
use Rattle.lk_print.proofs.Blocks.{var_written, seq_written}
use Rattle.lk_print.proofs.Calls.{call_written, project_written, negation_written}
use Rattle.lk_print.proofs.Cases.{WrittenSome, WrittenCase, switch_written, switch_last_written}
use Rattle.lk_print.proofs.Forms.{if_written, where_written, insert_written, list_loop_written, table_loop_written, query_written, lambda_written, delete_written, update_written}
use Rattle.lk_print.proofs.Levels.{of_node, scoped_is, change_with, scoped_part_is, scoped_case_is, scoped_last_is, scoped_lambda_is, scoped_change_is}
use Rattle.lk_print.proofs.Lists.{Each, each_more, each_map}
use Rattle.lk_print.proofs.Meant.{Written}
use Rattle.lk_print.proofs.Operators.{binary_written}
use Rattle.lk_print.proofs.Prefixes.{which_name, which_tag, literal_written, prefixed_written}
use Rattle.lk_print.proofs.Primaries.{IsNamed, WrittenPart, name_written, tag_written, record_written, extension_written, list_written}
use Rattle.lk_print.proofs.Params.{WrittenName, WrittenKey}
use Rattle.lk_scope.specs.Names.{Names, bind, bind_all, bind_some}
use Rattle.lk_scope.specs.Scoped.{scoped, all_in, scoped_part, scoped_case, scoped_last}

-- ---- tokens that can be written

abbrev pub GoodTokens : List Token → Type 0
GoodTokens w = Each (λ (t : Token). IsGood t.kind) w

pub first : {t : Token} {w : List Token} → GoodTokens (t ∷ w) → IsGood t.kind
first (Each.also g gs) = g

pub rest : {t : Token} {w : List Token} → GoodTokens (t ∷ w) → GoodTokens w
rest (Each.also g gs) = gs

pub left : (u v : List Token) → GoodTokens (u ++ v) → GoodTokens u
left [] v g = Each.none
left (t ∷ u) v (Each.also g gs) = Each.also g (left u v gs)

pub right : (u v : List Token) → GoodTokens (u ++ v) → GoodTokens v
right [] v g = g
right (t ∷ u) v (Each.also g gs) = right u v gs

-- ---- names

pub name_word : (t : Token) → IsGood t.kind → IsName t → IsNamed (word_of t).text
unfolding word_of
name_word t g h = which_name t g h

pub tag_word : (t : Token) → IsGood t.kind → IsAnyTag t → IsGood (Tag (word_of t).text)
unfolding word_of
tag_word t g h = which_tag t g h

pub names_each : {w : List Token} {xs : List Named} → GoodTokens w → IsNames w xs → Each WrittenName xs
names_each g (IsNames.first x h) = Each.also (name_word x (first g) h) Each.none
names_each g (IsNames.next {u} s x d i h) = each_more _ (word_of x) (names_each (left u _ g) d) (name_word x (first (rest (right u _ g))) h)

pub params_each : {w : List Token} {xs : List Named} → GoodTokens w → IsParams w xs → Each WrittenName xs
params_each g IsParams.none = Each.none
params_each g (IsParams.some d) = names_each g d

key_each : {w : List Token} {k : SortKey} → GoodTokens w → IsKey w k → WrittenKey k
key_each g (IsKey.rising l h) = name_word l (first g) h
key_each g (IsKey.falling l d h i) = name_word l (first g) h

keys_each : {w : List Token} {ks : List SortKey} → GoodTokens w → IsKeys w ks → Each WrittenKey ks
keys_each g (IsKeys.first d) = Each.also (key_each g d) Each.none
keys_each g (IsKeys.next {u} s d i e) = each_more _ _ (keys_each (left u _ g) d) (key_each (rest (right u _ g)) e)

order_each : {w : List Token} {ks : List SortKey} → GoodTokens w → IsOrder w ks → Each WrittenKey ks
order_each g IsOrder.none = Each.none
order_each g (IsOrder.some k o c {w} h i d j) = keys_each (left w _ (rest (rest g))) d

-- ---- lists under the names in scope

under_names : {X : Type 0} {P : X → Type 0} (names : Names) (f : X → Names → X) (xs : List X) → Each (λ x. P (f x names)) xs → Each P (all_in names (map f xs))
under_names names f xs each = each_map (λ g. g names) (map f xs) (each_map f xs each)

some_behind : {X : Type 0} (xs : List X) (x : X) → is_nil (xs ++ x ∷ []) ≡ false
some_behind [] x = refl
some_behind (y ∷ xs) x = refl

parts_some : {w : List Token} {parts : List PartExpr} → IsParts w parts → is_nil parts ≡ false
parts_some (IsParts.first_part d) = refl
parts_some (IsParts.next_part s d g e) = some_behind _ _

kept_some : {X : Type 0} (names : Names) (f : X → Names → X) (xs : List X) → is_nil xs ≡ false → is_nil (all_in names (map f xs)) ≡ false
kept_some names f [] e = absurd cc
kept_some names f (x ∷ xs) e = refl

any_extension : (names : Names) (span : Span) (ss : List PartExpr) (e : Expr) → is_nil ss ≡ false → Each (WrittenPart names) ss → Written names e → Written names (of_node span (node.Extend ss e))
any_extension names span [] e some each r = absurd cc
any_extension names span (s ∷ ss) e some each r = extension_written names span s ss e each r

any_update : (names : Names) (span : Span) (x t : Named) (c : Expr) (ss : List PartExpr) → is_nil ss ≡ false → IsNamed x.text → IsNamed t.text → Written (bind x names) c → Each (WrittenPart (bind x names)) ss → Written names (of_node span (node.Update (change_with x t c ss)))
any_update names span x t c [] some h g r each = absurd cc
any_update names span x t c (s ∷ ss) some h g r each = update_written names span x t c s ss h g r each

-- what the last case of a switch owes, where there is one
abbrev WrittenLast : Names → Option LastCase → Type 0
WrittenLast names None = Unit {0}
WrittenLast names (Some last) = IsNamed last.name.text × Written (bind last.name names) last.body

any_switch : (names : Names) (span : Span) (e : Expr) (ss : List Case) (last : Option LastCase) → some_case (record { list = ss; last = last }) ≡ true → Written names e → Each (WrittenCase names) ss → WrittenLast names last → Written names (of_node span (node.Switch e ss last))
any_switch names span e [] None some r each for_others = absurd cc
any_switch names span e (s ∷ ss) None some r each for_others = switch_written names span e s ss r each
any_switch names span e ss (Some last) some r each for_others = switch_last_written names span e ss last.name last.body r each for_others.0 for_others.1

-- ---- every production

abbrev Keeps : Expr → Type 0
Keeps e = (names : Names) → Written names (scoped e names)

abbrev KeepsPart : PartExpr → Type 0
KeepsPart part = (names : Names) → WrittenPart names (scoped_part part names)

abbrev KeepsCase : Case → Type 0
KeepsCase case = (names : Names) → WrittenCase names (scoped_case case names)

at_names : {X : Type 0} {P : Names → X → Type 0} (names : Names) (xs : List X) → Each (λ x. (all : Names) → P all x) xs → Each (P names) xs
at_names names [] Each.none = Each.none
at_names names (x ∷ xs) (Each.also p ps) = Each.also (p names) (at_names names xs ps)

record KeepsCases (cases : Cases) : Type 0 where
  list : Each KeepsCase cases.list
  last : (names : Names) → WrittenLast names (option_map (λ c. c names) (option_map scoped_last cases.last))

record KeepsChange (change : Change) : Type 0 where
  name : IsNamed change.name.text
  table : IsNamed change.table.text
  cond : Keeps change.cond

part_kept : (l : Token) (e : Expr) → IsGood l.kind → IsName l → Keeps e → KeepsPart (record { label = word_of l; expr = e })
part_kept l e g h r names = subst (WrittenPart names) (sym (scoped_part_is (record { label = word_of l; expr = e }) names)) (record { label = name_word l g h; expr = r names })

case_kept : (case : Case) → IsGood (Tag case.tag.text) → WrittenSome case.name → Keeps case.body → KeepsCase case
case_kept case g h r names = subst (WrittenCase names) (sym (scoped_case_is case names)) (record { tag = g; name = h; body = r (bind_some case.name names) })

last_kept : (x : Token) (e : Expr) → IsGood x.kind → IsName x → Keeps e → (names : Names) → WrittenLast names (Some (scoped_last (record { name = word_of x; body = e }) names))
last_kept x e g h r names = subst (λ z. WrittenLast names (Some z)) (sym (scoped_last_is (record { name = word_of x; body = e }) names)) (name_word x g h, r (bind (word_of x) names))

chain_kept : (ss : List Statement) (s : Statement) (to : ℕ) (last : Expr) → Keeps (chain ss to (expr_of s.from to (statement_node s.name s.expr last))) → Keeps (chain (ss ++ s ∷ []) to last)
chain_kept ss s to last r = subst Keeps (sym (chain_back (ss ++ s ∷ []) ss s to last refl)) r

var_kept : (span : Span) (x : Token) (e rest : Expr) → IsGood x.kind → IsName x → Keeps e → Keeps rest → Keeps (of_node span (node.Var (word_of x) e rest))
var_kept span x e rest g h p r names = subst (Written names) (sym (scoped_is span (node.Var (word_of x) e rest) (Node-F.Var (word_of x) e rest) names (node.rolls-Var (word_of x) e rest))) (var_written names span (word_of x) (scoped e names) (scoped rest (bind (word_of x) names)) (name_word x g h) (p names) (r (bind (word_of x) names)))

seq_kept : (span : Span) (e rest : Expr) → Keeps e → Keeps rest → Keeps (of_node span (node.Seq e rest))
seq_kept span e rest p r names = subst (Written names) (sym (scoped_is span (node.Seq e rest) (Node-F.Seq e rest) names (node.rolls-Seq e rest))) (seq_written names span (scoped e names) (scoped rest names) (p names) (r names))

record_kept : (span : Span) (parts : List PartExpr) → Each KeepsPart parts → Keeps (of_node span (node.Record parts))
record_kept span parts each names = subst (Written names) (sym (scoped_is span (node.Record parts) (Node-F.Record parts) names (node.rolls-Record parts))) (record_written names span (all_in names (map scoped_part parts)) (under_names names scoped_part parts (at_names names parts each)))

tag_kept : (span : Span) (t : Token) (e : Expr) → IsGood t.kind → IsAnyTag t → Keeps e → Keeps (of_node span (node.Tag (word_of t) e))
tag_kept span t e g h r names = subst (Written names) (sym (scoped_is span (node.Tag (word_of t) e) (Node-F.Tag (word_of t) e) names (node.rolls-Tag (word_of t) e))) (tag_written names span (word_of t) (scoped e names) (tag_word t g h) (r names))

literal_scoped : (span : Span) (kind : TokenKind) (names : Names) → scoped (of_node span (literal_node kind)) names ≡ of_node span (literal_node kind)
literal_scoped span (Word w) names = scoped_is span (node.Bool _) (Node-F.Bool _) names (node.rolls-Bool _)
literal_scoped span (Tag t) names = scoped_is span (node.Bool _) (Node-F.Bool _) names (node.rolls-Bool _)
literal_scoped span (Sign s) names = scoped_is span (node.Bool _) (Node-F.Bool _) names (node.rolls-Bool _)
literal_scoped span (Int n) names = scoped_is span (node.Int n) (Node-F.Int n) names (node.rolls-Int n)
literal_scoped span (Text t) names = scoped_is span (node.Text t) (Node-F.Text t) names (node.rolls-Text t)

literal_kept : (span : Span) (t : Token) → IsGood t.kind → begins start.Literal t ≡ true → Keeps (of_node span (literal_node t.kind))
literal_kept span t g is names = subst (Written names) (sym (literal_scoped span t.kind names)) (literal_written names span t g is)

table_loop_scoped : (span place : Span) (x t : Token) (d : Expr) (names : Names) → scoped (of_node span (node.ForTable (word_of x) (of_node place (node.Table (word_of t))) d)) names ≡ of_node span (node.ForTable (word_of x) (of_node place (node.Table (word_of t))) (scoped d (bind (word_of x) names)))
table_loop_scoped span place x t d names =
    scoped_is span _ (Node-F.ForTable (word_of x) (of_node place (node.Table (word_of t))) d) names (node.rolls-ForTable _ _ _)
    ∙ ap (λ z. of_node span (node.ForTable (word_of x) z (scoped d (bind (word_of x) names)))) (scoped_is place (node.Table (word_of t)) (Node-F.Table (word_of t)) names (node.rolls-Table _))

switch_scoped : (span : Span) (e : Expr) (cs : List Case) (last : Option LastCase) (names : Names) → scoped (of_node span (node.Switch e cs last)) names ≡ of_node span (node.Switch (scoped e names) (all_in names (map scoped_case cs)) (option_map (λ c. c names) (option_map scoped_last last)))
switch_scoped span e cs None names = scoped_is span (node.Switch e cs None) (Node-F.Switch e cs None) names (node.rolls-Switch e cs None)
switch_scoped span e cs (Some last) names = scoped_is span (node.Switch e cs (Some last)) (Node-F.Switch e cs (Some last)) names (node.rolls-Switch e cs (Some last))

switch_some : (names : Names) (cases : Cases) → some_case cases ≡ true → some_case (record { list = all_in names (map scoped_case cases.list); last = option_map (λ c. c names) (option_map scoped_last cases.last) }) ≡ true
switch_some names cases some = go cases.list cases.last some
  where
    go : (list : List Case) (last : Option LastCase) → some_case (record { list = list; last = last }) ≡ true → some_case (record { list = all_in names (map scoped_case list); last = option_map (λ c. c names) (option_map scoped_last last) }) ≡ true
    go [] None e = absurd cc
    go [] (Some last) e = refl
    go (c ∷ list) None e = refl
    go (c ∷ list) (Some last) e = refl

mutual
  pub expr_kept : {w : List Token} {p : Part} → GoodTokens w → IsExpr w p → Keeps p.expr
  expr_kept g (IsExpr.and_level d) names = and_kept g d names
  expr_kept g (IsExpr.disjunction {u} s {a} {b} d h is e) names = binary_written names level.Or s (between a.from b.to) a.expr b.expr is (expr_kept (left u _ g) d names) (and_kept (rest (right u _ g)) e names)

  and_kept : {w : List Token} {p : Part} → GoodTokens w → IsAnd w p → Keeps p.expr
  and_kept g (IsAnd.comparison_level d) names = comparison_kept g d names
  and_kept g (IsAnd.conjunction {u} s {a} {b} d h is e) names = binary_written names level.And s (between a.from b.to) a.expr b.expr is (and_kept (left u _ g) d names) (comparison_kept (rest (right u _ g)) e names)

  comparison_kept : {w : List Token} {p : Part} → GoodTokens w → IsComparison w p → Keeps p.expr
  comparison_kept g (IsComparison.join_level d) names = join_kept g d names
  comparison_kept g (IsComparison.comparison {u} s {a} {b} d h is e) names = binary_written names level.Comparison s (between a.from b.to) a.expr b.expr is (join_kept (left u _ g) d names) (join_kept (rest (right u _ g)) e names)

  join_kept : {w : List Token} {p : Part} → GoodTokens w → IsJoin w p → Keeps p.expr
  join_kept g (IsJoin.sum_level d) names = sum_kept g d names
  join_kept g (IsJoin.join {u} s {a} {b} d h is e) names = binary_written names level.Join s (between a.from b.to) a.expr b.expr is (sum_kept (left u _ g) d names) (join_kept (rest (right u _ g)) e names)

  sum_kept : {w : List Token} {p : Part} → GoodTokens w → IsSum w p → Keeps p.expr
  sum_kept g (IsSum.product_level d) names = product_kept g d names
  sum_kept g (IsSum.sum {u} s {a} {b} d h is e) names = binary_written names level.Sum s (between a.from b.to) a.expr b.expr is (sum_kept (left u _ g) d names) (product_kept (rest (right u _ g)) e names)

  product_kept : {w : List Token} {p : Part} → GoodTokens w → IsProduct w p → Keeps p.expr
  product_kept g (IsProduct.unary_level d) names = unary_kept g d names
  product_kept g (IsProduct.product {u} s {a} {b} d h is e) names = binary_written names level.Product s (between a.from b.to) a.expr b.expr is (product_kept (left u _ g) d names) (unary_kept (rest (right u _ g)) e names)

  unary_kept : {w : List Token} {p : Part} → GoodTokens w → IsUnary w p → Keeps p.expr
  unary_kept g (IsUnary.negation s {e} h d) names = subst (Written names) (sym (scoped_is _ (node.Neg e.expr) (Node-F.Neg e.expr) names (node.rolls-Neg e.expr))) (negation_written names _ (scoped e.expr names) (unary_kept (rest g) d names))
  unary_kept g (IsUnary.form d) names = form_kept g d names
  unary_kept g (IsUnary.postfix d) names = postfix_kept g d names

  postfix_kept : {w : List Token} {p : Part} → GoodTokens w → IsPostfix w p → Keeps p.expr
  postfix_kept g (IsPostfix.primary d) names = primary_kept g d names
  postfix_kept g (IsPostfix.call o c {u} {w} {f} {args} d h i e j) names = subst (Written names) (sym (scoped_is _ (node.Apply f.expr args) (Node-F.Apply f.expr args) names (node.rolls-Apply f.expr args))) (call_written names _ (scoped f.expr names) (all_in names (map scoped args)) (postfix_kept (left u _ g) d names) (under_names names scoped args (at_names names args (args_kept (left w _ (rest (right u _ g))) e))))
  postfix_kept g (IsPostfix.project s l {u} {e} d h i) names = subst (Written names) (sym (scoped_is _ (node.Project e.expr (word_of l)) (Node-F.Project e.expr (word_of l)) names (node.rolls-Project e.expr (word_of l)))) (project_written names _ (scoped e.expr names) (word_of l) (postfix_kept (left u _ g) d names) (name_word l (first (rest (right u _ g))) i))

  primary_kept : {w : List Token} {p : Part} → GoodTokens w → IsPrimary w p → Keeps p.expr
  primary_kept g (IsPrimary.literal_token t is) names = literal_kept t.span t (first g) is names
  primary_kept g (IsPrimary.name t h) names = subst (Written names) (sym (scoped_is t.span (node.Name (text_of_kind t.kind)) (Node-F.Name (text_of_kind t.kind)) names (node.rolls-Name (text_of_kind t.kind)))) (name_written names t.span (text_of_kind t.kind) (which_name t (first g) h))
  primary_kept g (IsPrimary.tag t h) names = tag_kept t.span t (hidden_unit t.span.start t.span.end) (first g) h (record_kept (between t.span.start t.span.end) [] Each.none) names
  primary_kept g (IsPrimary.tag_unit t o c h i j) names = tag_kept (between t.span.start c.span.end) t (hidden_unit t.span.start c.span.end) (first g) h (record_kept (between t.span.start c.span.end) [] Each.none) names
  primary_kept g (IsPrimary.tag_of t o c {w} {e} h i d j) names = tag_kept (between t.span.start c.span.end) t e.expr (first g) h (expr_kept (left w _ (rest (rest g))) d) names
  primary_kept g (IsPrimary.unit o c h i) names = record_kept (between o.span.start c.span.end) [] Each.none names
  primary_kept g (IsPrimary.paren o c {w} h d i) names = expr_kept (left w _ (rest g)) d names
  primary_kept g (IsPrimary.fields o c {w} {parts} h d i) names = record_kept (between o.span.start c.span.end) parts (parts_kept (left w _ (rest g)) d) names
  primary_kept g (IsPrimary.extension o b c {u} {w} {parts} {r} h d i e j) names = subst (Written names) (sym (scoped_is _ (node.Extend parts r.expr) (Node-F.Extend parts r.expr) names (node.rolls-Extend parts r.expr))) (any_extension names _ (all_in names (map scoped_part parts)) (scoped r.expr names) (kept_some names scoped_part parts (parts_some d)) (under_names names scoped_part parts (at_names names parts (parts_kept (left u _ (rest g)) d))) (expr_kept (left w _ (rest (right u _ (rest g)))) e names))
  primary_kept g (IsPrimary.list o c {w} {items} h d i) names = subst (Written names) (sym (scoped_is _ (node.List items) (Node-F.List items) names (node.rolls-List items))) (list_written names _ (all_in names (map scoped items)) (under_names names scoped items (at_names names items (args_kept (left w _ (rest g)) d))))
  primary_kept g (IsPrimary.block d) names = block_kept g d names
  primary_kept g (IsPrimary.prefix k o c {w} {e} is h d i) names = prefixed_written names k (between k.span.start c.span.end) e.expr is (expr_kept (left w _ (rest (rest g))) d names)

  args_kept : {w : List Token} {es : List Expr} → GoodTokens w → IsArgs w es → Each Keeps es
  args_kept g IsArgs.no_args = Each.none
  args_kept g (IsArgs.some_args d) = some_kept g d

  some_kept : {w : List Token} {es : List Expr} → GoodTokens w → IsSome w es → Each Keeps es
  some_kept g (IsSome.first_arg d) = Each.also (expr_kept g d) Each.none
  some_kept g (IsSome.next_arg {u} s {es} {e} d h i) = each_more es e.expr (some_kept (left u _ g) d) (expr_kept (rest (right u _ g)) i)

  parts_kept : {w : List Token} {parts : List PartExpr} → GoodTokens w → IsParts w parts → Each KeepsPart parts
  parts_kept g (IsParts.first_part d) = Each.also (part_of_kept g d) Each.none
  parts_kept g (IsParts.next_part {u} s {parts} {part} d h e) = each_more parts part (parts_kept (left u _ g) d) (part_of_kept (rest (right u _ g)) e)

  part_of_kept : {w : List Token} {part : PartExpr} → GoodTokens w → IsPart w part → KeepsPart part
  part_of_kept g (IsPart.set l q {e} h i d) = part_kept l e.expr (first g) h (expr_kept (rest (rest g)) d)

  pub block_kept : {w : List Token} {p : Part} → GoodTokens w → IsBlock w p → Keeps p.expr
  block_kept g (IsBlock.braces o c {u} {v} {e} h d i j) = statements_kept (left u _ (rest g)) d e.to e.expr (expr_kept (left v _ (right u _ (rest g))) i)

  statements_kept : {w : List Token} {ss : List Statement} → GoodTokens w → IsStatements w ss → (to : ℕ) (last : Expr) → Keeps last → Keeps (chain ss to last)
  statements_kept g IsStatements.nil to last r = r
  statements_kept g (IsStatements.let_in {u} {v} k x q s {ss} {e} d h i j a l) to last r = chain_kept ss (var_statement k x e) to last (statements_kept (left u _ g) d to _ (var_kept (between k.span.start to) x e.expr last (first (rest (right u _ g))) i (expr_kept (left v _ (rest (rest (rest (right u _ g))))) a) r))
  statements_kept g (IsStatements.plain {u} {v} s {ss} {e} d a j) to last r = chain_kept ss (plain_statement e) to last (statements_kept (left u _ g) d to _ (seq_kept (between e.from to) e.expr last (expr_kept (left v _ (right u _ g)) a) r))

  form_kept : {w : List Token} {p : Part} → GoodTokens w → IsForm w p → Keeps p.expr
  form_kept g (IsForm.conditional k o c l {t} {u} {v} {a} {d} {e} m h x i y j z) names =
      let in_c = rest (rest g) in
      let in_d = rest (right t _ in_c) in
      subst (Written names) (sym (scoped_is _ (node.If a.expr d.expr e.expr) (Node-F.If a.expr d.expr e.expr) names (node.rolls-If _ _ _))) (if_written names _ (scoped a.expr names) (scoped d.expr names) (scoped e.expr names) (expr_kept (left t _ in_c) x names) (expr_kept (left u _ in_d) y names) (expr_kept (rest (right u _ in_d)) z names))
  form_kept g (IsForm.for_list k o x s c {u} {e} {d} m h i j y l z) names =
      let in_e = rest (rest (rest (rest g))) in
      subst (Written names) (sym (scoped_is _ (node.ForList (word_of x) e.expr d.expr) (Node-F.ForList (word_of x) e.expr d.expr) names (node.rolls-ForList _ _ _))) (list_loop_written names _ (word_of x) (scoped e.expr names) (scoped d.expr (bind (word_of x) names)) (name_word x (first (rest (rest g))) i) (expr_kept (left u _ in_e) y names) (expr_kept (rest (right u _ in_e)) z (bind (word_of x) names)))
  form_kept g (IsForm.for_table k o x s t c {d} m h i j l n z) names =
      let in_t = rest (rest (rest (rest g))) in
      subst (Written names) (sym (table_loop_scoped _ _ x t d.expr names)) (table_loop_written names _ _ (word_of x) (word_of t) (scoped d.expr (bind (word_of x) names)) (name_word x (first (rest (rest g))) i) (name_word t (first in_t) l) (expr_kept (rest (rest in_t)) z (bind (word_of x) names)))
  form_kept g (IsForm.where_holds k o c {u} {a} {e} m h x i z) names =
      let in_c = rest (rest g) in
      subst (Written names) (sym (scoped_is _ (node.Where a.expr e.expr) (Node-F.Where a.expr e.expr) names (node.rolls-Where _ _))) (where_written names _ (scoped a.expr names) (scoped e.expr names) (expr_kept (left u _ in_c) x names) (expr_kept (rest (right u _ in_c)) z names))
  form_kept g (IsForm.insert k t s {e} m h i z) names = subst (Written names) (sym (scoped_is _ (node.Insert (word_of t) e.expr) (Node-F.Insert (word_of t) e.expr) names (node.rolls-Insert _ _))) (insert_written names _ (word_of t) (scoped e.expr names) (name_word t (first (rest g)) h) (expr_kept (rest (rest (rest g))) z names))
  form_kept g (IsForm.update k h o c {v} {w} {change} {sets} m x i j y l) names =
      let r = change_kept (left v _ (rest g)) x in
      subst (Written names) (sym (scoped_is _ (node.Update (change_with change.name change.table change.cond sets)) (Node-F.Update (change_with change.name change.table change.cond sets)) names (node.rolls-Update _) ∙ ap (λ z. of_node (between k.span.start c.span.end) (node.Update z)) (scoped_change_is change.name change.table change.cond sets names)))
      (any_update names _ change.name change.table (scoped change.cond (bind change.name names)) (all_in (bind change.name names) (map scoped_part sets)) (kept_some (bind change.name names) scoped_part sets (parts_some y)) r.name r.table (r.cond (bind change.name names)) (under_names (bind change.name names) scoped_part sets (at_names (bind change.name names) sets (parts_kept (left w _ (rest (rest (right v _ (rest g))))) y))))
  form_kept g (IsForm.delete k {change} m x) names =
      let r = change_kept (rest g) x in
      subst (Written names) (sym (scoped_is _ (node.Delete (change_with change.name change.table change.cond [])) (Node-F.Delete (change_with change.name change.table change.cond [])) names (node.rolls-Delete _) ∙ ap (λ z. of_node (between k.span.start change.to) (node.Delete z)) (scoped_change_is change.name change.table change.cond [] names)))
      (delete_written names _ change.name change.table (scoped change.cond (bind change.name names)) r.name r.table (r.cond (bind change.name names)))
  form_kept g (IsForm.switch k o c b d {u} {v} {e} {cases} m h x i j y some l) names =
      let in_e = rest (rest g) in
      let r = cases_kept (left v _ (rest (rest (right u _ in_e)))) y in
      subst (Written names) (sym (switch_scoped _ e.expr cases.list cases.last names))
      (any_switch names _ (scoped e.expr names) (all_in names (map scoped_case cases.list)) (option_map (λ c. c names) (option_map scoped_last cases.last)) (switch_some names cases some) (expr_kept (left u _ in_e) x names) (under_names names scoped_case cases.list (at_names names cases.list r.list)) (r.last names))
  form_kept g (IsForm.query k {u} {keys} {b} m x y) names = subst (Written names) (sym (scoped_is _ (node.Query keys b.expr) (Node-F.Query keys b.expr) names (node.rolls-Query _ _))) (query_written names _ keys (scoped b.expr names) (order_each (left u _ (rest g)) x) (block_kept (right u _ (rest g)) y names))
  form_kept g (IsForm.lambda k o c {u} {v} {params} {place} {b} m h x i y z) names =
      let lambda : LambdaExpr = record { params = params; place = place; body = b.expr } in
      let in_params = rest (rest g) in
      subst (Written names) (sym (scoped_is _ (node.Lambda lambda) (Node-F.Lambda lambda) names (node.rolls-Lambda lambda) ∙ ap (λ z. of_node (between k.span.start b.to) (node.Lambda z)) (scoped_lambda_is lambda names)))
      (lambda_written names _ params place (scoped b.expr (bind_all params names)) (params_each (left u _ in_params) x) (block_kept (right v _ (rest (right u _ in_params))) z (bind_all params names)))

  change_kept : {w : List Token} {change : Change} → GoodTokens w → IsChange w change → KeepsChange change
  change_kept g (IsChange.rows o x s t c h p q {w} {a} m i j k l n y d z) = record { name = name_word x (first (rest g)) i; table = name_word t (first (rest (rest (rest g)))) k; cond = expr_kept (left w _ (rest (rest (rest (rest (rest (rest (rest g)))))))) d }

  cases_kept : {w : List Token} {cases : Cases} → GoodTokens w → IsCases w cases → KeepsCases cases
  cases_kept g IsCases.no_case = record { list = Each.none; last = λ names. tt }
  cases_kept g (IsCases.next_case {u} {cases} {case} d h e) = record { list = each_more cases.list case (cases_kept (left u _ g) d).list (one_case_kept (right u _ g) e); last = λ names. tt }
  cases_kept g (IsCases.final_case {u} k x a {cases} {e} d h m i j y) = record { list = (cases_kept (left u _ g) d).list; last = last_kept x e.expr (first (rest (right u _ g))) i (expr_kept (rest (rest (rest (right u _ g)))) y) }

  one_case_kept : {w : List Token} {case : Case} → GoodTokens w → IsCase w case → KeepsCase case
  one_case_kept g (IsCase.named_case k t o x c a {e} m h i j l n d) = case_kept (record { tag = word_of t; name = Some (word_of x); body = e.expr }) (tag_word t (first (rest g)) h) (name_word x (first (rest (rest (rest g)))) j) (expr_kept (rest (rest (rest (rest (rest (rest g)))))) d)
  one_case_kept g (IsCase.unit_case k t a {e} m h i d) = case_kept (record { tag = word_of t; name = None; body = e.expr }) (tag_word t (first (rest g)) h) tt (expr_kept (rest (rest (rest g))) d)
