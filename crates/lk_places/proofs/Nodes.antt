-- What is found in each kind of node whose names are resolved, in the order of the text.
use Rattle.std.proofs.Common.{◌≡◌, ℕ, Bool, true, false, List, [], ◌∷◌, ◌++◌, Option, Some, None, map, refl, sym, ap, ap₂, ◌∙◌}
use Rattle.std.proofs.lemmas.Grind.{flat_map-append}
use Rattle.std.proofs.lemmas.List.{append-nil, map-id}
use Rattle.std.proofs.lemmas.List.Folds.{flat_map-map}
use Rattle.std.specs.List.{flat_map}
use Rattle.std.specs.Prelude.{codes, if◌then◌else◌}
use Rattle.std.specs.Str.{bytes_eq}
use Rattle.lk_ast.specs.Layers.{Layer}
use Rattle.lk_ast.specs.declared.expression.Case.{Case}
use Rattle.lk_ast.specs.declared.expression.ChangeExpr.{ChangeExpr}
use Rattle.lk_ast.specs.declared.expression.Expr.{Expr}
use Rattle.lk_ast.specs.declared.expression.LambdaExpr.{LambdaExpr}
use Rattle.lk_ast.specs.declared.expression.LastCase.{LastCase}
use Rattle.lk_ast.specs.declared.expression.Node.{Node, roll-Node}
use Rattle.lk_ast.specs.declared.expression.Node.TheOpen.{Node-F}
use Rattle.lk_ast.specs.declared.expression.Node.TheVariants as node
use Rattle.lk_ast.specs.declared.expression.PartExpr.{PartExpr}
use Rattle.lk_ast.specs.declared.expression.SortKey.{SortKey}
use Rattle.lk_ast.specs.declared.place.Span.{Span}
use Rattle.lk_ast.specs.declared.place.Word.{Word as Named}
use Rattle.lk_ast.specs.declared.token.TokenKind.{TokenKind}
use Rattle.lk_ast.specs.declared.token.TokenKind.TheVariants.{Word, Tag, Int, Text, Sign}
use Rattle.lk_ground.specs.Sites.{PlacedUse, all, node_uses, uses_in}
use Rattle.lk_index.proofs.Paras.{node_is}
use Rattle.lk_index.specs.Places.{Lambdas, PlacedLambda, gather, gather_node}
use Rattle.lk_parts.specs.Operators.{comparison_node, join_node, sum_node, product_node, operator_node, prefix_node}
use Rattle.lk_parts.specs.Parts.{literal_node}
use Rattle.lk_parts.specs.declared.operators.Level.{Level}
use Rattle.lk_parts.specs.declared.operators.Level.TheVariants as level
use Rattle.lk_scope.specs.Names.{Names, is_local, bind, bind_all}
use Rattle.lk_scope.specs.Scoped.{all_in, node_in, call_node, scoped, scoped_case, scoped_change, scoped_lambda, scoped_last, scoped_part}
use Rattle.lk_places.proofs.Levels.{of_node, within, parts_scoped, found_at, found_lambda, found_change, change_with, all_scoped}
use Rattle.lk_places.proofs.Walks.{Walk, Same, nothing, both, walk_all, with_lambda, with_use, with_block, same_then, same_by, same_block, starts_in, node_starts, starts_level, used_node, used_part, used_case, used_last, with_used, node_used, walk_of, walk_node, walk_part, walk_lambda, walk_case, walk_last, walk_change}

-- A node of this level becomes one of that level: in it is found what a walk finds that gathers as the level does, and that has
-- the level's uses, and what acts on tables in it.
node_same : (span : Span) (n : Node) (l m : Layer) (names : Names) (walk : Walk) → roll-Node l ≡ n → node_in (parts_scoped l) names ≡ roll-Node m
    → ((found : Lambdas) → gather_node (roll-Node m) span.start found ≡ walk.lambdas found) → node_uses (with_used m) span.start ≡ walk.uses
    → node_starts m span.start ≡ walk.blocks → Same (within (of_node span n) names) walk
node_same span n l m names walk rolls resolves gathers used listed =
    same_then (found_at span n l names rolls)
    (same_by (ap (λ z. walk_node z span.start) resolves) (record { gathers = gathers; used = node_used m span.start ∙ used; listed = starts_level _ m refl span.start ∙ listed }))

only_two : {A : Type 0} (us vs : List A) → us ++ (vs ++ []) ≡ us ++ vs
only_two us vs = ap (λ z. us ++ z) (append-nil vs)

-- one more list of them at the end, or none
all_last : (uss : List (List PlacedUse)) (vs : List PlacedUse) → all (uss ++ vs ∷ []) ≡ all uss ++ vs
all_last uss vs = flat_map-append (λ us. us) uss (vs ∷ []) ∙ ap (λ us. all uss ++ us) (append-nil vs)

last_none : (uss : List (List PlacedUse)) → all (uss ++ []) ≡ all uss
last_none uss = ap all (append-nil uss)

-- where what acts on tables begins in parts of some kind, and in one more expression at the end, or none
starts_last : {X : Type 0} (of : X → Expr) (xs : List X) (e : Expr) → flat_map starts_in (map of xs ++ e ∷ []) ≡ flat_map (λ x. starts_in (of x)) xs ++ starts_in e
starts_last of xs e = flat_map-append starts_in (map of xs) (e ∷ []) ∙ ap₂ (λ a b. a ++ b) (flat_map-map starts_in of xs) (append-nil (starts_in e))

starts_alone : {X : Type 0} (of : X → Expr) (xs : List X) → flat_map starts_in (map of xs ++ []) ≡ flat_map (λ x. starts_in (of x)) xs
starts_alone of xs = ap (flat_map starts_in) (append-nil (map of xs)) ∙ flat_map-map starts_in of xs

-- the same, and something behind it
same_front : {f h : Walk} (g : Walk) → Same f h → Same (both f g) (both h g)
same_front g s = record { gathers = λ found. ap g.lambdas (s.gathers found); used = ap (λ us. us ++ g.uses) s.used; listed = ap (λ bs. bs ++ g.blocks) s.listed }

-- ---- nodes with no parts, one and two

abbrev pub IsLeaf : Node → Type 0
IsLeaf n = (span : Span) (names : Names) → Same (within (of_node span n) names) nothing

abbrev pub IsOne : (Expr → Node) → Type 0
IsOne made = (span : Span) (e : Expr) (names : Names) → Same (within (of_node span (made e)) names) (within e names)

abbrev pub IsPair : (Expr → Expr → Node) → Type 0
IsPair made = (span : Span) (a b : Expr) (names : Names) → Same (within (of_node span (made a b)) names) (both (within a names) (within b names))

one_of : (made : Expr → Node) (layer : Expr → Layer) → ((e : Expr) → roll-Node (layer e) ≡ made e)
    → ((e : Expr) (names : Names) → node_in (parts_scoped (layer e)) names ≡ made (scoped e names))
    → ((e : Expr) (site : ℕ) (found : Lambdas) → gather_node (roll-Node (layer e)) site found ≡ gather e found)
    → ((e : Expr) (site : ℕ) → node_uses (with_used (layer e)) site ≡ uses_in e ++ []) → ((e : Expr) (site : ℕ) → node_starts (layer e) site ≡ starts_in e ++ []) → IsOne made
one_of made layer rolls resolves gathers used listed span e names =
    node_same span (made e) (layer e) (layer (scoped e names)) names (within e names) (rolls e) (resolves e names ∙ sym (rolls (scoped e names)))
    (gathers (scoped e names) span.start) (used (scoped e names) span.start ∙ append-nil (uses_in (scoped e names))) (listed (scoped e names) span.start ∙ append-nil (starts_in (scoped e names)))

pair_of : (made : Expr → Expr → Node) (layer : Expr → Expr → Layer) → ((a b : Expr) → roll-Node (layer a b) ≡ made a b)
    → ((a b : Expr) (names : Names) → node_in (parts_scoped (layer a b)) names ≡ made (scoped a names) (scoped b names))
    → ((a b : Expr) (site : ℕ) (found : Lambdas) → gather_node (roll-Node (layer a b)) site found ≡ gather b (gather a found))
    → ((a b : Expr) (site : ℕ) → node_uses (with_used (layer a b)) site ≡ uses_in a ++ (uses_in b ++ []))
    → ((a b : Expr) (site : ℕ) → node_starts (layer a b) site ≡ starts_in a ++ (starts_in b ++ [])) → IsPair made
pair_of made layer rolls resolves gathers used listed span a b names =
    node_same span (made a b) (layer a b) (layer (scoped a names) (scoped b names)) names (both (within a names) (within b names)) (rolls a b) (resolves a b names ∙ sym (rolls (scoped a names) (scoped b names)))
    (gathers (scoped a names) (scoped b names) span.start) (used (scoped a names) (scoped b names) span.start ∙ only_two (uses_in (scoped a names)) (uses_in (scoped b names)))
    (listed (scoped a names) (scoped b names) span.start ∙ only_two (starts_in (scoped a names)) (starts_in (scoped b names)))

-- ---- one of two

either_one : (truth : Bool) (made other : Expr → Node) → IsOne made → IsOne other → IsOne (λ e. if truth then made e else other e)
either_one true made other h k = h
either_one false made other h k = k

either_pair : (truth : Bool) (made other : Expr → Expr → Node) → IsPair made → IsPair other → IsPair (λ a b. if truth then made a b else other a b)
either_pair true made other h k = h
either_pair false made other h k = k

-- ---- operators

or_pair : IsPair node.Or
or_pair = pair_of _ (λ a b. Node-F.Or a b) node.rolls-Or (λ a b names. refl) (λ a b site found. node_is _ (Node-F.Or a b) refl site found) (λ a b site. refl) (λ a b site. refl)

and_pair : IsPair node.And
and_pair = pair_of _ (λ a b. Node-F.And a b) node.rolls-And (λ a b names. refl) (λ a b site found. node_is _ (Node-F.And a b) refl site found) (λ a b site. refl) (λ a b site. refl)

eq_pair : IsPair node.Eq
eq_pair = pair_of _ (λ a b. Node-F.Eq a b) node.rolls-Eq (λ a b names. refl) (λ a b site found. node_is _ (Node-F.Eq a b) refl site found) (λ a b site. refl) (λ a b site. refl)

ne_pair : IsPair node.Ne
ne_pair = pair_of _ (λ a b. Node-F.Ne a b) node.rolls-Ne (λ a b names. refl) (λ a b site found. node_is _ (Node-F.Ne a b) refl site found) (λ a b site. refl) (λ a b site. refl)

lt_pair : IsPair node.Lt
lt_pair = pair_of _ (λ a b. Node-F.Lt a b) node.rolls-Lt (λ a b names. refl) (λ a b site found. node_is _ (Node-F.Lt a b) refl site found) (λ a b site. refl) (λ a b site. refl)

le_pair : IsPair node.Le
le_pair = pair_of _ (λ a b. Node-F.Le a b) node.rolls-Le (λ a b names. refl) (λ a b site found. node_is _ (Node-F.Le a b) refl site found) (λ a b site. refl) (λ a b site. refl)

gt_pair : IsPair node.Gt
gt_pair = pair_of _ (λ a b. Node-F.Gt a b) node.rolls-Gt (λ a b names. refl) (λ a b site found. node_is _ (Node-F.Gt a b) refl site found) (λ a b site. refl) (λ a b site. refl)

ge_pair : IsPair node.Ge
ge_pair = pair_of _ (λ a b. Node-F.Ge a b) node.rolls-Ge (λ a b names. refl) (λ a b site found. node_is _ (Node-F.Ge a b) refl site found) (λ a b site. refl) (λ a b site. refl)

cons_pair : IsPair node.Cons
cons_pair = pair_of _ (λ a b. Node-F.Cons a b) node.rolls-Cons (λ a b names. refl) (λ a b site found. node_is _ (Node-F.Cons a b) refl site found) (λ a b site. refl) (λ a b site. refl)

append_pair : IsPair node.Append
append_pair = pair_of _ (λ a b. Node-F.Append a b) node.rolls-Append (λ a b names. refl) (λ a b site found. node_is _ (Node-F.Append a b) refl site found) (λ a b site. refl) (λ a b site. refl)

concat_pair : IsPair node.Concat
concat_pair = pair_of _ (λ a b. Node-F.Concat a b) node.rolls-Concat (λ a b names. refl) (λ a b site found. node_is _ (Node-F.Concat a b) refl site found) (λ a b site. refl) (λ a b site. refl)

add_pair : IsPair node.Add
add_pair = pair_of _ (λ a b. Node-F.Add a b) node.rolls-Add (λ a b names. refl) (λ a b site found. node_is _ (Node-F.Add a b) refl site found) (λ a b site. refl) (λ a b site. refl)

sub_pair : IsPair node.Sub
sub_pair = pair_of _ (λ a b. Node-F.Sub a b) node.rolls-Sub (λ a b names. refl) (λ a b site found. node_is _ (Node-F.Sub a b) refl site found) (λ a b site. refl) (λ a b site. refl)

mul_pair : IsPair node.Mul
mul_pair = pair_of _ (λ a b. Node-F.Mul a b) node.rolls-Mul (λ a b names. refl) (λ a b site found. node_is _ (Node-F.Mul a b) refl site found) (λ a b site. refl) (λ a b site. refl)

div_pair : IsPair node.Div
div_pair = pair_of _ (λ a b. Node-F.Div a b) node.rolls-Div (λ a b names. refl) (λ a b site found. node_is _ (Node-F.Div a b) refl site found) (λ a b site. refl) (λ a b site. refl)

mod_pair : IsPair node.Mod
mod_pair = pair_of _ (λ a b. Node-F.Mod a b) node.rolls-Mod (λ a b names. refl) (λ a b site found. node_is _ (Node-F.Mod a b) refl site found) (λ a b site. refl) (λ a b site. refl)

pub where_pair : IsPair node.Where
where_pair = pair_of _ (λ a b. Node-F.Where a b) node.rolls-Where (λ a b names. refl) (λ a b site found. node_is _ (Node-F.Where a b) refl site found) (λ a b site. refl) (λ a b site. refl)

pub seq_pair : IsPair node.Seq
seq_pair = pair_of _ (λ a b. Node-F.Seq a b) node.rolls-Seq (λ a b names. refl) (λ a b site found. node_is _ (Node-F.Seq a b) refl site found) (λ a b site. refl) (λ a b site. refl)

comparison_pair : (sign : List ℕ) → IsPair (comparison_node sign)
unfolding comparison_node
comparison_pair sign =
    either_pair (bytes_eq sign (codes "==")) _ _ eq_pair
    (either_pair (bytes_eq sign (codes "<>")) _ _ ne_pair
    (either_pair (bytes_eq sign (codes "<")) _ _ lt_pair
    (either_pair (bytes_eq sign (codes "<=")) _ _ le_pair
    (either_pair (bytes_eq sign (codes ">")) _ _ gt_pair ge_pair))))

join_pair : (sign : List ℕ) → IsPair (join_node sign)
unfolding join_node
join_pair sign = either_pair (bytes_eq sign (codes "::")) _ _ cons_pair (either_pair (bytes_eq sign (codes "++")) _ _ append_pair concat_pair)

sum_pair : (sign : List ℕ) → IsPair (sum_node sign)
unfolding sum_node
sum_pair sign = either_pair (bytes_eq sign (codes "+")) _ _ add_pair sub_pair

product_pair : (sign : List ℕ) → IsPair (product_node sign)
unfolding product_node
product_pair sign = either_pair (bytes_eq sign (codes "*")) _ _ mul_pair (either_pair (bytes_eq sign (codes "/")) _ _ div_pair mod_pair)

pub operator_pair : (at : Level) (sign : List ℕ) → IsPair (operator_node at sign)
operator_pair level.Or sign = or_pair
operator_pair level.And sign = and_pair
operator_pair level.Comparison sign = comparison_pair sign
operator_pair level.Join sign = join_pair sign
operator_pair level.Sum sign = sum_pair sign
operator_pair level.Product sign = product_pair sign

-- ---- nodes with one part

pub neg_one : IsOne node.Neg
neg_one = one_of _ (λ e. Node-F.Neg e) node.rolls-Neg (λ e names. refl) (λ e site found. node_is _ (Node-F.Neg e) refl site found) (λ e site. refl) (λ e site. refl)

not_one : IsOne node.Not
not_one = one_of _ (λ e. Node-F.Not e) node.rolls-Not (λ e names. refl) (λ e site found. node_is _ (Node-F.Not e) refl site found) (λ e site. refl) (λ e site. refl)

hd_one : IsOne node.Hd
hd_one = one_of _ (λ e. Node-F.Hd e) node.rolls-Hd (λ e names. refl) (λ e site found. node_is _ (Node-F.Hd e) refl site found) (λ e site. refl) (λ e site. refl)

tl_one : IsOne node.Tl
tl_one = one_of _ (λ e. Node-F.Tl e) node.rolls-Tl (λ e names. refl) (λ e site found. node_is _ (Node-F.Tl e) refl site found) (λ e site. refl) (λ e site. refl)

empty_one : IsOne node.Empty
empty_one = one_of _ (λ e. Node-F.Empty e) node.rolls-Empty (λ e names. refl) (λ e site found. node_is _ (Node-F.Empty e) refl site found) (λ e site. refl) (λ e site. refl)

int_to_string_one : IsOne node.IntToString
int_to_string_one = one_of _ (λ e. Node-F.IntToString e) node.rolls-IntToString (λ e names. refl) (λ e site found. node_is _ (Node-F.IntToString e) refl site found) (λ e site. refl) (λ e site. refl)

print_one : IsOne node.Print
print_one = one_of _ (λ e. Node-F.Print e) node.rolls-Print (λ e names. refl) (λ e site found. node_is _ (Node-F.Print e) refl site found) (λ e site. refl) (λ e site. refl)

pub prefix_one : (word : List ℕ) → IsOne (prefix_node word)
unfolding prefix_node
prefix_one word =
    either_one (bytes_eq word (codes "print")) _ _ print_one
    (either_one (bytes_eq word (codes "not")) _ _ not_one
    (either_one (bytes_eq word (codes "hd")) _ _ hd_one
    (either_one (bytes_eq word (codes "tl")) _ _ tl_one
    (either_one (bytes_eq word (codes "empty")) _ _ empty_one int_to_string_one))))

pub project_one : (l : Named) → IsOne (λ e. node.Project e l)
project_one l = one_of _ (λ e. Node-F.Project e l) (λ e. node.rolls-Project e l) (λ e names. refl) (λ e site found. node_is _ (Node-F.Project e l) refl site found) (λ e site. refl) (λ e site. refl)

pub tag_one : (t : Named) → IsOne (λ e. node.Tag t e)
tag_one t = one_of _ (λ e. Node-F.Tag t e) (λ e. node.rolls-Tag t e) (λ e names. refl) (λ e site found. node_is _ (Node-F.Tag t e) refl site found) (λ e site. refl) (λ e site. refl)

-- ---- nodes with one part, or none, that act on tables

pub insert_same : (span : Span) (t : Named) (e : Expr) (names : Names) → Same (within (of_node span (node.Insert t e)) names) (with_block span.start (within e names))
insert_same span t e names =
    let m : Layer = Node-F.Insert t (scoped e names) in
    node_same span _ (Node-F.Insert t e) m names _ (node.rolls-Insert t e) (sym (node.rolls-Insert t _)) (node_is _ m refl span.start) (append-nil _) (ap (λ bs. span.start ∷ bs) (append-nil _))

pub query_same : (span : Span) (keys : List SortKey) (e : Expr) (names : Names) → Same (within (of_node span (node.Query keys e)) names) (with_block span.start (within e names))
query_same span keys e names =
    let m : Layer = Node-F.Query keys (scoped e names) in
    node_same span _ (Node-F.Query keys e) m names _ (node.rolls-Query keys e) (sym (node.rolls-Query keys _)) (node_is _ m refl span.start) (append-nil _) (ap (λ bs. span.start ∷ bs) (append-nil _))

table_same : (span : Span) (t : Named) (names : Names) → Same (within (of_node span (node.Table t)) names) (with_block span.start nothing)
table_same span t names =
    let m : Layer = Node-F.Table t in
    node_same span _ m m names _ (node.rolls-Table t) (sym (node.rolls-Table t)) (node_is _ m refl span.start) refl refl

-- ---- nodes with no parts

leaf_of : (n : Node) (l m : Layer) → roll-Node l ≡ n → ((names : Names) → node_in (parts_scoped l) names ≡ roll-Node m)
    → ((site : ℕ) (found : Lambdas) → gather_node (roll-Node m) site found ≡ found) → ((site : ℕ) → node_uses (with_used m) site ≡ []) → ((site : ℕ) → node_starts m site ≡ []) → IsLeaf n
leaf_of n l m rolls resolves gathers used listed span names = node_same span n l m names nothing rolls (resolves names) (gathers span.start) (used span.start) (listed span.start)

bool_leaf : (truth : Bool) → IsLeaf (node.Bool truth)
bool_leaf truth = leaf_of _ (Node-F.Bool truth) (Node-F.Bool truth) (node.rolls-Bool truth) (λ names. sym (node.rolls-Bool truth)) (λ site found. node_is _ (Node-F.Bool truth) refl site found) (λ site. refl) (λ site. refl)

pub literal_leaf : (kind : TokenKind) → IsLeaf (literal_node kind)
literal_leaf (Int number) = leaf_of _ (Node-F.Int number) (Node-F.Int number) (node.rolls-Int number) (λ names. sym (node.rolls-Int number)) (λ site found. node_is _ (Node-F.Int number) refl site found) (λ site. refl) (λ site. refl)
literal_leaf (Text text) = leaf_of _ (Node-F.Text text) (Node-F.Text text) (node.rolls-Text text) (λ names. sym (node.rolls-Text text)) (λ site found. node_is _ (Node-F.Text text) refl site found) (λ site. refl) (λ site. refl)
literal_leaf (Word word) = bool_leaf (bytes_eq word (codes "true"))
literal_leaf (Tag tag) = bool_leaf false
literal_leaf (Sign sign) = bool_leaf false

-- a word is a local name, or it uses a function of the program
abbrev pub word_walk : Bool → List ℕ → ℕ → Walk
word_walk true x site = nothing
word_walk false x site = with_use x site nothing

word_same : (local : Bool) (x : List ℕ) (site : ℕ) → Same (walk_node (if local then node.Name x else node.Function x) site) (word_walk local x site)
word_same true x site = same_by (ap (λ n. walk_node n site) (sym (node.rolls-Name x))) (record { gathers = node_is _ (Node-F.Name x) refl site; used = node_used (Node-F.Name x) site; listed = starts_level _ (Node-F.Name x) refl site })
word_same false x site = same_by (ap (λ n. walk_node n site) (sym (node.rolls-Function x))) (record { gathers = node_is _ (Node-F.Function x) refl site; used = node_used (Node-F.Function x) site; listed = starts_level _ (Node-F.Function x) refl site })

pub name_same : (x : List ℕ) (span : Span) (names : Names) → Same (within (of_node span (node.Name x)) names) (word_walk (is_local names x) x span.start)
name_same x span names = same_then (found_at span _ (Node-F.Name x) names (node.rolls-Name x)) (word_same (is_local names x) x span.start)

-- ---- nodes that bind names

pub var_same : (span : Span) (x : Named) (e rest : Expr) (names : Names) → Same (within (of_node span (node.Var x e rest)) names) (both (within e names) (within rest (bind x names)))
var_same span x e rest names =
    let m : Layer = Node-F.Var x (scoped e names) (scoped rest (bind x names)) in
    node_same span _ (Node-F.Var x e rest) m names _ (node.rolls-Var x e rest) (sym (node.rolls-Var x _ _)) (node_is _ m refl span.start) (only_two _ _) (only_two _ _)

pub for_list_same : (span : Span) (x : Named) (e body : Expr) (names : Names) → Same (within (of_node span (node.ForList x e body)) names) (both (within e names) (within body (bind x names)))
for_list_same span x e body names =
    let m : Layer = Node-F.ForList x (scoped e names) (scoped body (bind x names)) in
    node_same span _ (Node-F.ForList x e body) m names _ (node.rolls-ForList x e body) (sym (node.rolls-ForList x _ _)) (node_is _ m refl span.start) (only_two _ _) (only_two _ _)

-- of a table that is written as a word, which it reads
pub for_table_same : (span place : Span) (x t : Named) (body : Expr) (names : Names)
    → Same (within (of_node span (node.ForTable x (of_node place (node.Table t)) body)) names) (with_block place.start (within body (bind x names)))
for_table_same span place x t body names =
    let rows : Expr = of_node place (node.Table t) in
    let m : Layer = Node-F.ForTable x (scoped rows names) (scoped body (bind x names)) in
    let here : Same (within (of_node span (node.ForTable x rows body)) names) (both (within rows names) (within body (bind x names))) =
    node_same span _ (Node-F.ForTable x rows body) m names _ (node.rolls-ForTable x rows body) (sym (node.rolls-ForTable x _ _)) (node_is _ m refl span.start) (only_two _ _) (only_two _ _) in
    same_then here (same_front (within body (bind x names)) (table_same place t names))

pub lambda_same : (span : Span) (lambda : LambdaExpr) (names : Names)
    → Same (within (of_node span (node.Lambda lambda)) names) (with_lambda (record { site = span.start; lambda = scoped_lambda lambda names }) (within lambda.body (bind_all lambda.params names)))
lambda_same span lambda names =
    let m : Layer = Node-F.Lambda (scoped_lambda lambda names) in
    let placed : PlacedLambda = record { site = span.start; lambda = scoped_lambda lambda names } in
    let here : Same (within (of_node span (node.Lambda lambda)) names) (with_lambda placed (walk_lambda (scoped_lambda lambda names))) =
    node_same span _ (Node-F.Lambda lambda) m names _ (node.rolls-Lambda lambda) (sym (node.rolls-Lambda _)) (node_is _ m refl span.start) (append-nil _) (append-nil _) in
    same_then here (record { gathers = λ found. (found_lambda lambda names).gathers (found ++ placed ∷ []); used = (found_lambda lambda names).used; listed = (found_lambda lambda names).listed })

-- ---- nodes with more parts

pub if_same : (span : Span) (c d e : Expr) (names : Names) → Same (within (of_node span (node.If c d e)) names) (both (within c names) (both (within d names) (within e names)))
if_same span c d e names =
    let m : Layer = Node-F.If (scoped c names) (scoped d names) (scoped e names) in
    node_same span _ (Node-F.If c d e) m names _ (node.rolls-If c d e) (sym (node.rolls-If _ _ _)) (node_is _ m refl span.start) (ap (λ us. uses_in (scoped c names) ++ us) (only_two _ _))
    (ap (λ bs. starts_in (scoped c names) ++ bs) (only_two _ _))

pub record_same : (span : Span) (parts : List PartExpr) (names : Names) → Same (within (of_node span (node.Record parts)) names) (all_scoped walk_part scoped_part parts names)
record_same span parts names =
    let m : Layer = Node-F.Record (all_in names (map scoped_part parts)) in
    node_same span _ (Node-F.Record parts) m names _ (node.rolls-Record parts) (sym (node.rolls-Record _)) (node_is _ m refl span.start) (ap all (map-id (map used_part (all_in names (map scoped_part parts)))))
    (flat_map-map starts_in (λ (part : PartExpr). part.expr) (all_in names (map scoped_part parts)))

pub extend_same : (span : Span) (parts : List PartExpr) (e : Expr) (names : Names) → Same (within (of_node span (node.Extend parts e)) names) (both (all_scoped walk_part scoped_part parts names) (within e names))
extend_same span parts e names =
    let m : Layer = Node-F.Extend (all_in names (map scoped_part parts)) (scoped e names) in
    node_same span _ (Node-F.Extend parts e) m names _ (node.rolls-Extend parts e) (sym (node.rolls-Extend _ _)) (node_is _ m refl span.start)
    (ap (λ us. all (us ++ uses_in (scoped e names) ∷ [])) (map-id (map used_part (all_in names (map scoped_part parts)))) ∙ all_last (map used_part (all_in names (map scoped_part parts))) (uses_in (scoped e names)))
    (starts_last (λ (part : PartExpr). part.expr) (all_in names (map scoped_part parts)) (scoped e names))

pub list_same : (span : Span) (items : List Expr) (names : Names) → Same (within (of_node span (node.List items)) names) (all_scoped walk_of scoped items names)
list_same span items names =
    let m : Layer = Node-F.List (all_in names (map scoped items)) in
    node_same span _ (Node-F.List items) m names _ (node.rolls-List items) (sym (node.rolls-List _)) (node_is _ m refl span.start) refl refl

-- ---- calls, of a function of the program or of a value

pub apply_same : (span : Span) (f : Expr) (args : List Expr) (names : Names)
    → Same (within (of_node span (node.Apply f args)) names) (walk_node (call_node (scoped f names) (all_in names (map scoped args))) span.start)
apply_same span f args names = found_at span _ (Node-F.Apply f args) names (node.rolls-Apply f args)

pub value_same : (f : Expr) (args : List Expr) (site : ℕ) → Same (walk_node (node.Apply f args) site) (both (walk_of f) (walk_all walk_of args))
value_same f args site = record { gathers = node_is _ (Node-F.Apply f args) (sym (node.rolls-Apply f args)) site; used = ap (λ n. used_node n site) (sym (node.rolls-Apply f args)) ∙ node_used (Node-F.Apply f args) site; listed = starts_level _ (Node-F.Apply f args) (sym (node.rolls-Apply f args)) site }

pub function_same : (g : Named) (args : List Expr) (site : ℕ) → Same (walk_node (node.Call g args) site) (with_use g.text site (walk_all walk_of args))
function_same g args site = record { gathers = node_is _ (Node-F.Call g args) (sym (node.rolls-Call g args)) site; used = ap (λ n. used_node n site) (sym (node.rolls-Call g args)) ∙ node_used (Node-F.Call g args) site; listed = starts_level _ (Node-F.Call g args) (sym (node.rolls-Call g args)) site }

-- ---- cases

abbrev pub with_last : Option LastCase → Names → Walk → Walk
with_last None names f = f
with_last (Some last) names f = both f (walk_last (scoped_last last names))

abbrev pub cases_within : List Case → Option LastCase → Names → Walk
cases_within cases last names = with_last last names (all_scoped walk_case scoped_case cases names)

pub switch_same : (span : Span) (e : Expr) (cases : List Case) (last : Option LastCase) (names : Names) → Same (within (of_node span (node.Switch e cases last)) names) (both (within e names) (cases_within cases last names))
switch_same span e cases None names =
    let m : Layer = Node-F.Switch (scoped e names) (all_in names (map scoped_case cases)) None in
    node_same span _ (Node-F.Switch e cases None) m names _ (node.rolls-Switch e cases None) (sym (node.rolls-Switch _ _ None)) (node_is _ m refl span.start)
    (ap (λ us. uses_in (scoped e names) ++ us) (last_none (map used_case (all_in names (map scoped_case cases)))))
    (ap (λ bs. starts_in (scoped e names) ++ bs) (starts_alone (λ (case : Case). case.body) (all_in names (map scoped_case cases))))
switch_same span e cases (Some last) names =
    let m : Layer = Node-F.Switch (scoped e names) (all_in names (map scoped_case cases)) (Some (scoped_last last names)) in
    node_same span _ (Node-F.Switch e cases (Some last)) m names _ (node.rolls-Switch e cases (Some last)) (sym (node.rolls-Switch _ _ (Some _))) (node_is _ m refl span.start)
    (ap (λ us. uses_in (scoped e names) ++ us) (all_last (map used_case (all_in names (map scoped_case cases))) (used_last (scoped_last last names))))
    (ap (λ bs. starts_in (scoped e names) ++ bs) (starts_last (λ (case : Case). case.body) (all_in names (map scoped_case cases)) (scoped_last last names).body))

-- ---- changes of a table

abbrev pub change_within : Named → Expr → List PartExpr → Names → Walk
change_within x cond sets names = both (within cond (bind x names)) (all_scoped walk_part scoped_part sets (bind x names))

pub update_same : (span : Span) (x t : Named) (cond : Expr) (sets : List PartExpr) (names : Names) → Same (within (of_node span (node.Update (change_with x t cond sets))) names) (with_block span.start (change_within x cond sets names))
update_same span x t cond sets names =
    let change : ChangeExpr = scoped_change (change_with x t cond sets) names in
    let m : Layer = Node-F.Update change in
    let here : Same (within (of_node span (node.Update (change_with x t cond sets))) names) (with_block span.start (walk_change change)) =
    node_same span _ (Node-F.Update (change_with x t cond sets)) m names _ (node.rolls-Update _) (sym (node.rolls-Update _)) (node_is _ m refl span.start) (append-nil _) refl in
    same_then here (same_block span.start (found_change x t cond sets names))

pub delete_same : (span : Span) (x t : Named) (cond : Expr) (names : Names) → Same (within (of_node span (node.Delete (change_with x t cond []))) names) (with_block span.start (within cond (bind x names)))
delete_same span x t cond names =
    let change : ChangeExpr = scoped_change (change_with x t cond []) names in
    let m : Layer = Node-F.Delete change in
    let here : Same (within (of_node span (node.Delete (change_with x t cond []))) names) (with_block span.start (walk_change change)) =
    node_same span _ (Node-F.Delete (change_with x t cond [])) m names _ (node.rolls-Delete _) (sym (node.rolls-Delete _)) (node_is _ m refl span.start) (append-nil _) refl in
    same_then here (same_block span.start (same_then (found_change x t cond [] names) (record { gathers = λ found. refl; used = append-nil _; listed = append-nil _ })))
