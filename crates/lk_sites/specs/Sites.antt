-- The queries, readings of tables, updates and deletions of the instances of a ground program, each once, in the order of their
-- labels. Label 0 is `print`. From 1 on each instance outside of queries, updates and deletions has the next label, and then in the
-- text order of its body each lambda, query, reading of a table, insertion, update and deletion has one, but nothing that stands in
-- a query, an update or a deletion.
use Rattle.std.specs.Prelude.{ℕ, ◌+◌, Bool, true, false, ◌||◌, List, [], ◌∷◌, ◌++◌, drop, map, if◌then◌else◌}
use Rattle.lk_ast.specs.Children.{children}
use Rattle.lk_ast.specs.declared.expression.Case.{Case}
use Rattle.lk_ast.specs.declared.expression.ChangeExpr.{ChangeExpr}
use Rattle.lk_ast.specs.declared.expression.Expr.{Expr, Expr-F, para-Expr}
use Rattle.lk_ast.specs.declared.expression.LambdaExpr.{LambdaExpr}
use Rattle.lk_ast.specs.declared.expression.LastCase.{LastCase}
use Rattle.lk_ast.specs.declared.expression.Node.{Node, out-Node}
use Rattle.lk_ast.specs.declared.expression.Node.TheOpen.{Node-F, Case-F, ChangeExpr-F, LambdaExpr-F, LastCase-F, PartExpr-F}
use Rattle.lk_ast.specs.declared.expression.PartExpr.{PartExpr}
use Rattle.lk_ground.specs.Language.{function_of}
use Rattle.lk_ground.specs.declared.program.GroundFun.{GroundFun}
use Rattle.lk_ground.specs.declared.program.GroundProgram.{GroundProgram}
use Rattle.lk_types.specs.declared.ground.Ground.{Ground}

-- one of them: its label, the place of its function, its expression, and what is still to come in that function's body from its
-- own node on: the types of nodes, and what uses call
pub record Site : Type 0 where
  pub label : ℕ
  pub fun : ℕ
  pub block : Expr
  pub types : List Ground
  pub calls : List ℕ

-- the next label, what is still to come in a body, and what was found so far
pub record Tour : Type 0 where
  pub label : ℕ
  pub types : List Ground
  pub calls : List ℕ
  pub found : List Site

-- inside a query, an update or a deletion, or outside of them
abbrev pub Visit : Type 0
Visit = Bool → Tour → Tour

-- one after the other
abbrev pub all : List Visit → Visit
all [] inside t = t
all (visit ∷ visits) inside t = all visits inside (visit inside t)

-- ---- what each node takes: a type, and a use of a function what it calls

abbrev pub behind_type : Tour → Tour
behind_type t = record { label = t.label; types = drop 1 t.types; calls = t.calls; found = t.found }

abbrev pub behind_use : Tour → Tour
behind_use t = record { label = t.label; types = drop 1 t.types; calls = drop 1 t.calls; found = t.found }

abbrev pub behind_node : {N C H E L S P : Type 0} → Node-F N C H E L S P → Tour → Tour
behind_node (Node-F.Function g) t = behind_use t
behind_node (Node-F.Call g args) t = behind_use t
behind_node other t = behind_type t

-- ---- what has a label

abbrev pub labelled : Tour → Tour
labelled t = record { label = t.label + 1; types = t.types; calls = t.calls; found = t.found }

-- in the function at this place
module _ (fun : ℕ) where
  abbrev pub site_at : Expr → Tour → Site
  site_at e t = record { label = t.label; fun = fun; block = e; types = t.types; calls = t.calls }

  abbrev pub noted : Expr → Tour → Tour
  noted e t = record { label = t.label + 1; types = t.types; calls = t.calls; found = t.found ++ site_at e t ∷ [] }

  -- an expression outside of queries, updates and deletions, by its node
  abbrev pub at_node : {N C H E L S P : Type 0} → Node-F N C H E L S P → Expr → Tour → Tour
  at_node (Node-F.Lambda lambda) e t = labelled t
  at_node (Node-F.Insert table rows) e t = labelled t
  at_node (Node-F.Table table) e t = noted e t
  at_node (Node-F.Query keys body) e t = noted e t
  at_node (Node-F.Update change) e t = noted e t
  at_node (Node-F.Delete change) e t = noted e t
  at_node other e t = t

  abbrev pub entered : {N C H E L S P : Type 0} → Node-F N C H E L S P → Expr → Visit
  entered node e inside t = behind_node node (if inside then t else at_node node e t)

-- whether nothing in it has a label
abbrev pub is_closed : {N C H E L S P : Type 0} → Node-F N C H E L S P → Bool
is_closed (Node-F.Query keys body) = true
is_closed (Node-F.Update change) = true
is_closed (Node-F.Delete change) = true
is_closed other = false

-- ---- one level of an expression, each part beside the visit to it

abbrev pub own : {X : Type 0} → X × Visit → List Visit
own part = part.1 ∷ []

abbrev pub node_visit : Node-F (Node × Visit) (Case × Visit) (ChangeExpr × Visit) (Expr × Visit) (LambdaExpr × Visit) (LastCase × Visit) (PartExpr × Visit) → Visit
node_visit node inside = all (children own own own own own own node) (inside || is_closed node)

abbrev pub case_visit : Case-F (Node × Visit) (Case × Visit) (ChangeExpr × Visit) (Expr × Visit) (LambdaExpr × Visit) (LastCase × Visit) (PartExpr × Visit) → Visit
case_visit case = case.body.1

abbrev pub change_visit : ChangeExpr-F (Node × Visit) (Case × Visit) (ChangeExpr × Visit) (Expr × Visit) (LambdaExpr × Visit) (LastCase × Visit) (PartExpr × Visit) → Visit
change_visit change = all (change.cond.1 ∷ map (λ set. set.1) change.sets)

abbrev pub lambda_visit : LambdaExpr-F (Node × Visit) (Case × Visit) (ChangeExpr × Visit) (Expr × Visit) (LambdaExpr × Visit) (LastCase × Visit) (PartExpr × Visit) → Visit
lambda_visit lambda = lambda.body.1

abbrev pub last_visit : LastCase-F (Node × Visit) (Case × Visit) (ChangeExpr × Visit) (Expr × Visit) (LambdaExpr × Visit) (LastCase × Visit) (PartExpr × Visit) → Visit
last_visit last = last.body.1

abbrev pub part_visit : PartExpr-F (Node × Visit) (Case × Visit) (ChangeExpr × Visit) (Expr × Visit) (LambdaExpr × Visit) (LastCase × Visit) (PartExpr × Visit) → Visit
part_visit part = part.expr.1

module _ (fun : ℕ) where
  abbrev pub expr_visit : Expr-F (Node × Visit) (Case × Visit) (ChangeExpr × Visit) (Expr × Visit) (LambdaExpr × Visit) (LastCase × Visit) (PartExpr × Visit) → Visit
  expr_visit e inside t = e.node.1 inside (entered fun (out-Node e.node.0) (record { span = e.span; node = e.node.0 }) inside t)

  unfoldable pub visit : Expr → Visit
  visit = para-Expr Visit Visit Visit Visit Visit Visit Visit node_visit case_visit change_visit expr_visit lambda_visit last_visit part_visit

  -- an instance, and its body
  abbrev pub in_instance : GroundFun → Tour → Tour
  in_instance f t = visit (function_of f).body false (record { label = t.label + 1; types = f.types; calls = f.calls; found = t.found })

-- those from this place on
abbrev pub in_instances : ℕ → List GroundFun → Tour → Tour
in_instances fun [] t = t
in_instances fun (f ∷ fs) t = in_instances (fun + 1) fs (in_instance fun f t)

abbrev pub start : Tour
start = record { label = 1; types = []; calls = []; found = [] }

abbrev pub sites_of : GroundProgram → List Site
sites_of g = (in_instances 0 g.funs start).found
