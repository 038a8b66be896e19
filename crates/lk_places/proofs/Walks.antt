-- What is found in a part of the text: the lambdas that a walk through its tree gathers, the uses of functions, and where it acts
-- on tables.
use Rattle.std.proofs.Common.{◌≡◌, ℕ, Bool, true, false, List, [], ◌∷◌, ◌++◌, map, refl, ap, ◌∙◌}
use Rattle.std.proofs.lemmas.List.{append-nil, map-append}
use Rattle.std.proofs.lemmas.List.Folds.{flat_map-map}
use Rattle.std.specs.List.{flat_map}
use Rattle.std.specs.Prelude.{if◌then◌else◌}
use Rattle.lk_ast.specs.Layers.{Layer, layer}
use Rattle.lk_ast.specs.declared.expression.Case.{Case, fold-Case, fold_out-Case}
use Rattle.lk_ast.specs.declared.expression.ChangeExpr.{ChangeExpr, out-ChangeExpr, fold-ChangeExpr, fold_out-ChangeExpr}
use Rattle.lk_ast.specs.declared.expression.Expr.{Expr, fold_out-Expr}
use Rattle.lk_ast.specs.declared.expression.LambdaExpr.{LambdaExpr, fold-LambdaExpr, fold_out-LambdaExpr}
use Rattle.lk_ast.specs.declared.expression.LastCase.{LastCase, fold-LastCase, fold_out-LastCase}
use Rattle.lk_ast.specs.declared.expression.Node.{Node, fold-Node, out-Node, roll-Node, out-roll-Node}
use Rattle.lk_ast.specs.declared.expression.Node.TheFolds.{fold-roll-Node, map-Node}
use Rattle.lk_ast.specs.declared.expression.Node.TheOpen.{Node-F}
use Rattle.lk_ast.specs.declared.expression.PartExpr.{PartExpr, fold-PartExpr, fold_out-PartExpr}
use Rattle.lk_bag.proofs.Levels.{inside, inside_change, itself, blocks_level}
use Rattle.lk_bag.specs.Blocks.{acts_on_tables, blocks_in}
use Rattle.lk_ground.specs.Sites.{PlacedUse, all, in_case, in_change, in_expr, in_lambda, in_last, in_part, use_at, node_uses, uses_in}
use Rattle.lk_index.proofs.Paras.{expr_level, part_level, lambda_level, case_level, last_level, change_level}
use Rattle.lk_index.specs.Places.{Gather, Lambdas, PlacedLambda, gather_all, each_with, gather, gather_node, gather_part, gather_lambda, gather_case, gather_last, gather_change}
use Rattle.lk_types.specs.Rows.{Label}

-- what the lambdas before a part become with those in it, the uses in it, and where what acts on tables in it begins
pub record Walk : Type 0 where
  pub lambdas : Gather
  pub uses : List PlacedUse
  pub blocks : List ℕ

-- where nothing is found
abbrev pub nothing : Walk
nothing = record { lambdas = λ found. found; uses = []; blocks = [] }

-- one part, and another behind it
abbrev pub both : Walk → Walk → Walk
both f g = record { lambdas = λ found. g.lambdas (f.lambdas found); uses = f.uses ++ g.uses; blocks = f.blocks ++ g.blocks }

-- parts that stand one after another
abbrev pub walk_all : {X : Type 0} → (X → Walk) → List X → Walk
walk_all of xs = record { lambdas = gather_all (each_with (λ x. (of x).lambdas) xs); uses = all (map (λ x. (of x).uses) xs); blocks = flat_map (λ x. (of x).blocks) xs }

-- a lambda that begins here, and what is found in its body
abbrev pub with_lambda : PlacedLambda → Walk → Walk
with_lambda placed f = record { lambdas = λ found. f.lambdas (found ++ placed ∷ []); uses = f.uses; blocks = f.blocks }

-- a use that begins here, and what is found behind it
abbrev pub with_use : Label → ℕ → Walk → Walk
with_use g site f = record { lambdas = f.lambdas; uses = use_at g site ∷ f.uses; blocks = f.blocks }

-- what acts on tables and begins here, and what is found in it
abbrev pub with_block : ℕ → Walk → Walk
with_block site f = record { lambdas = f.lambdas; uses = f.uses; blocks = site ∷ f.blocks }

-- ---- walks that find the same

pub record Same (h g : Walk) : Type 0 where
  pub gathers : (found : Lambdas) → h.lambdas found ≡ g.lambdas found
  pub used : h.uses ≡ g.uses
  pub listed : h.blocks ≡ g.blocks

pub same_then : {f g h : Walk} → Same f g → Same g h → Same f h
same_then s t = record { gathers = λ found. s.gathers found ∙ t.gathers found; used = s.used ∙ t.used; listed = s.listed ∙ t.listed }

pub same_by : {f g h : Walk} → f ≡ g → Same g h → Same f h
same_by is s = record { gathers = λ found. ap (λ (w : Walk). w.lambdas found) is ∙ s.gathers found; used = ap (λ (w : Walk). w.uses) is ∙ s.used; listed = ap (λ (w : Walk). w.blocks) is ∙ s.listed }

-- something, and the same behind it
pub same_behind : (f : Walk) {g h : Walk} → Same g h → Same (both f g) (both f h)
same_behind f s = record { gathers = λ found. s.gathers (f.lambdas found); used = ap (λ us. f.uses ++ us) s.used; listed = ap (λ bs. f.blocks ++ bs) s.listed }

-- what acts on tables, with the same in it
pub same_block : (site : ℕ) {f g : Walk} → Same f g → Same (with_block site f) (with_block site g)
same_block site s = record { gathers = s.gathers; used = s.used; listed = ap (λ bs. site ∷ bs) s.listed }

-- a part alone
pub same_alone : {X : Type 0} (of : X → Walk) (x : X) → Same (walk_all of (x ∷ [])) (of x)
same_alone of x = record { gathers = λ found. refl; used = append-nil (of x).uses; listed = append-nil (of x).blocks }

-- ---- the uses in each kind of part

abbrev pub used_node : Node → ℕ → List PlacedUse
used_node = fold-Node (ℕ → List PlacedUse) (List PlacedUse) (List PlacedUse) (List PlacedUse) (List PlacedUse) (List PlacedUse) (List PlacedUse) node_uses in_case in_change in_expr in_lambda in_last in_part

abbrev pub used_part : PartExpr → List PlacedUse
used_part = fold-PartExpr (ℕ → List PlacedUse) (List PlacedUse) (List PlacedUse) (List PlacedUse) (List PlacedUse) (List PlacedUse) (List PlacedUse) node_uses in_case in_change in_expr in_lambda in_last in_part

abbrev pub used_lambda : LambdaExpr → List PlacedUse
used_lambda = fold-LambdaExpr (ℕ → List PlacedUse) (List PlacedUse) (List PlacedUse) (List PlacedUse) (List PlacedUse) (List PlacedUse) (List PlacedUse) node_uses in_case in_change in_expr in_lambda in_last in_part

abbrev pub used_case : Case → List PlacedUse
used_case = fold-Case (ℕ → List PlacedUse) (List PlacedUse) (List PlacedUse) (List PlacedUse) (List PlacedUse) (List PlacedUse) (List PlacedUse) node_uses in_case in_change in_expr in_lambda in_last in_part

abbrev pub used_last : LastCase → List PlacedUse
used_last = fold-LastCase (ℕ → List PlacedUse) (List PlacedUse) (List PlacedUse) (List PlacedUse) (List PlacedUse) (List PlacedUse) (List PlacedUse) node_uses in_case in_change in_expr in_lambda in_last in_part

abbrev pub used_change : ChangeExpr → List PlacedUse
used_change = fold-ChangeExpr (ℕ → List PlacedUse) (List PlacedUse) (List PlacedUse) (List PlacedUse) (List PlacedUse) (List PlacedUse) (List PlacedUse) node_uses in_case in_change in_expr in_lambda in_last in_part

-- a node with the uses in each of its parts
abbrev pub with_used : Layer → Node-F (ℕ → List PlacedUse) (List PlacedUse) (List PlacedUse) (List PlacedUse) (List PlacedUse) (List PlacedUse) (List PlacedUse)
with_used = map-Node Node Case ChangeExpr Expr LambdaExpr LastCase PartExpr (ℕ → List PlacedUse) (List PlacedUse) (List PlacedUse) (List PlacedUse) (List PlacedUse) (List PlacedUse) (List PlacedUse) used_node used_case used_change uses_in used_lambda used_last used_part

pub node_used : (l : Layer) (site : ℕ) → used_node (roll-Node l) site ≡ node_uses (with_used l) site
unfolding uses_in
node_used l site = ap (λ f. f site) (fold-roll-Node (ℕ → List PlacedUse) (List PlacedUse) (List PlacedUse) (List PlacedUse) (List PlacedUse) (List PlacedUse) (List PlacedUse) node_uses in_case in_change in_expr in_lambda in_last in_part l)

expr_used : (e : Expr) → uses_in e ≡ used_node e.node e.span.start
unfolding uses_in
expr_used e = fold_out-Expr (ℕ → List PlacedUse) (List PlacedUse) (List PlacedUse) (List PlacedUse) (List PlacedUse) (List PlacedUse) (List PlacedUse) node_uses in_case in_change in_expr in_lambda in_last in_part e

part_used : (part : PartExpr) → used_part part ≡ uses_in part.expr
unfolding uses_in
part_used part = fold_out-PartExpr (ℕ → List PlacedUse) (List PlacedUse) (List PlacedUse) (List PlacedUse) (List PlacedUse) (List PlacedUse) (List PlacedUse) node_uses in_case in_change in_expr in_lambda in_last in_part part

lambda_used : (lambda : LambdaExpr) → used_lambda lambda ≡ uses_in lambda.body
unfolding uses_in
lambda_used lambda = fold_out-LambdaExpr (ℕ → List PlacedUse) (List PlacedUse) (List PlacedUse) (List PlacedUse) (List PlacedUse) (List PlacedUse) (List PlacedUse) node_uses in_case in_change in_expr in_lambda in_last in_part lambda

case_used : (case : Case) → used_case case ≡ uses_in case.body
unfolding uses_in
case_used case = fold_out-Case (ℕ → List PlacedUse) (List PlacedUse) (List PlacedUse) (List PlacedUse) (List PlacedUse) (List PlacedUse) (List PlacedUse) node_uses in_case in_change in_expr in_lambda in_last in_part case

last_used : (last : LastCase) → used_last last ≡ uses_in last.body
unfolding uses_in
last_used last = fold_out-LastCase (ℕ → List PlacedUse) (List PlacedUse) (List PlacedUse) (List PlacedUse) (List PlacedUse) (List PlacedUse) (List PlacedUse) node_uses in_case in_change in_expr in_lambda in_last in_part last

change_used : (change : ChangeExpr) → used_change change ≡ uses_in (out-ChangeExpr change).cond ++ all (map used_part (out-ChangeExpr change).sets)
unfolding uses_in
change_used change = fold_out-ChangeExpr (ℕ → List PlacedUse) (List PlacedUse) (List PlacedUse) (List PlacedUse) (List PlacedUse) (List PlacedUse) (List PlacedUse) node_uses in_case in_change in_expr in_lambda in_last in_part change

-- ---- where what acts on tables begins

abbrev pub starts : List Expr → List ℕ
starts blocks = map (λ (block : Expr). block.span.start) blocks

abbrev pub starts_in : Expr → List ℕ
starts_in e = starts (blocks_in e)

-- in a node that begins here
abbrev pub node_starts : Layer → ℕ → List ℕ
node_starts l site = if acts_on_tables l then site ∷ flat_map starts_in (inside l) else flat_map starts_in (inside l)

pub starts_flat : {X : Type 0} (of : X → List Expr) (xs : List X) → starts (flat_map of xs) ≡ flat_map (λ x. starts (of x)) xs
starts_flat of [] = refl
starts_flat of (x ∷ xs) = map-append (λ (block : Expr). block.span.start) (of x) (flat_map of xs) ∙ ap (λ bs. starts (of x) ++ bs) (starts_flat of xs)

starts_with : (truth : Bool) (e : Expr) (found : List Expr) → starts (itself truth e ++ found) ≡ (if truth then e.span.start ∷ starts found else starts found)
starts_with true e found = refl
starts_with false e found = refl

expr_starts : (e : Expr) → starts_in e ≡ node_starts (layer e) e.span.start
expr_starts e =
    ap starts (blocks_level e) ∙ starts_with (acts_on_tables (layer e)) e (flat_map blocks_in (inside (layer e)))
    ∙ ap (λ bs. if acts_on_tables (layer e) then e.span.start ∷ bs else bs) (starts_flat blocks_in (inside (layer e)))

pub starts_level : (n : Node) (l : Layer) → n ≡ roll-Node l → (site : ℕ) → node_starts (out-Node n) site ≡ node_starts l site
starts_level n l is site = ap (λ m. node_starts (out-Node m) site) is ∙ ap (λ m. node_starts m site) (out-roll-Node l)

-- ---- what is found in each kind of part

abbrev pub walk_of : Expr → Walk
walk_of e = record { lambdas = gather e; uses = uses_in e; blocks = starts_in e }

-- in a node that begins here
abbrev pub walk_node : Node → ℕ → Walk
walk_node n site = record { lambdas = gather_node n site; uses = used_node n site; blocks = node_starts (out-Node n) site }

abbrev pub walk_part : PartExpr → Walk
walk_part part = record { lambdas = gather_part part; uses = used_part part; blocks = starts_in part.expr }

abbrev pub walk_lambda : LambdaExpr → Walk
walk_lambda lambda = record { lambdas = gather_lambda lambda; uses = used_lambda lambda; blocks = starts_in lambda.body }

abbrev pub walk_case : Case → Walk
walk_case case = record { lambdas = gather_case case; uses = used_case case; blocks = starts_in case.body }

abbrev pub walk_last : LastCase → Walk
walk_last last = record { lambdas = gather_last last; uses = used_last last; blocks = starts_in last.body }

abbrev pub walk_change : ChangeExpr → Walk
walk_change change = record { lambdas = gather_change change; uses = used_change change; blocks = flat_map starts_in (inside_change change) }

pub expr_walk : (e : Expr) → Same (walk_of e) (walk_node e.node e.span.start)
expr_walk e = record { gathers = expr_level e; used = expr_used e; listed = expr_starts e }

pub part_walk : (part : PartExpr) → Same (walk_part part) (walk_of part.expr)
part_walk part = record { gathers = part_level part; used = part_used part; listed = refl }

pub lambda_walk : (lambda : LambdaExpr) → Same (walk_lambda lambda) (walk_of lambda.body)
lambda_walk lambda = record { gathers = lambda_level lambda; used = lambda_used lambda; listed = refl }

pub case_walk : (case : Case) → Same (walk_case case) (walk_of case.body)
case_walk case = record { gathers = case_level case; used = case_used case; listed = refl }

pub last_walk : (last : LastCase) → Same (walk_last last) (walk_of last.body)
last_walk last = record { gathers = last_level last; used = last_used last; listed = refl }

pub change_walk : (change : ChangeExpr) → Same (walk_change change) (both (walk_of (out-ChangeExpr change).cond) (walk_all walk_part (out-ChangeExpr change).sets))
change_walk change = record { gathers = change_level change; used = change_used change; listed = ap (λ bs. starts_in (out-ChangeExpr change).cond ++ bs) (flat_map-map starts_in (λ (part : PartExpr). part.expr) (out-ChangeExpr change).sets) }
