-- The walk through an expression: what is said of types, in order. The parts of a node come in text order, and then what is
-- said of the node. Two things are said before: that a lambda moves, before its body, and what the rows of a table are,
-- before the body of a `for` over it. An expression has types by the rules just where something can stand for the variables
-- so that all that is said holds.
use Rattle.std.specs.Prelude.{ℕ, ◌+◌, Bool, true, false, List, [], ◌∷◌, ◌++◌, Option, Some, None, map, length}
use Rattle.std.specs.Option.{option_map}
use Rattle.lk_ast.specs.declared.declaration.TableDecl.{TableDecl}
use Rattle.lk_ast.specs.declared.expression.Case.{Case, fold-Case}
use Rattle.lk_ast.specs.declared.expression.ChangeExpr.{ChangeExpr, fold-ChangeExpr}
use Rattle.lk_ast.specs.declared.expression.Expr.{Expr, Expr-F, fold-Expr}
use Rattle.lk_ast.specs.declared.expression.LambdaExpr.{LambdaExpr, fold-LambdaExpr}
use Rattle.lk_ast.specs.declared.expression.LastCase.{LastCase, fold-LastCase}
use Rattle.lk_ast.specs.declared.expression.Node.{Node, fold-Node}
use Rattle.lk_ast.specs.declared.expression.Node.TheOpen.{Node-F, Case-F, ChangeExpr-F, LambdaExpr-F, LastCase-F, PartExpr-F}
use Rattle.lk_ast.specs.declared.expression.PartExpr.{PartExpr, fold-PartExpr}
use Rattle.lk_ast.specs.declared.expression.SortKey.{SortKey}
use Rattle.lk_ast.specs.declared.place.Loc.{Loc}
use Rattle.lk_ast.specs.declared.place.Span.{Span}
use Rattle.lk_ast.specs.declared.place.Word.{Word}
use Rattle.lk_types.specs.Rows.{Label}
use Rattle.lk_types.specs.declared.equation.Equation.{Equation}
use Rattle.lk_types.specs.declared.ty.Effect.{Effect}
use Rattle.lk_types.specs.declared.ty.Effect.TheVariants as effect
use Rattle.lk_types.specs.declared.ty.Effects.{Effects}
use Rattle.lk_types.specs.declared.ty.RowTail.TheVariants.{Closed, Var}
use Rattle.lk_types.specs.declared.ty.Ty.{Ty}
use Rattle.lk_types.specs.declared.ty.Ty.TheVariants as ty
use Rattle.lk_typing.specs.Equations.{Own, own, never, equations_of}
use Rattle.lk_typing.specs.Heads.{Head, head, parts}
use Rattle.lk_typing.specs.Names.{Named, types_of, Entry, table_named}
use Rattle.lk_typing.specs.Steps.{same_at, typed_at}
use Rattle.lk_typing.specs.declared.step.Step.{Step}
use Rattle.lk_typing.specs.Types.{labelled}
use Rattle.lk_typing.specs.Typing.{is_marked, is_there}
use Rattle.lk_typing.specs.Unknowns.{record_of, variant_of, unit, effects_of, row_of, same, has}

-- what a walk finds: the type of the expression, those of the nodes in it in text order, what is said, and the next number
-- for a variable
pub record Walked : Type 0 where
  pub ty : Ty
  pub inside : List Ty
  pub steps : List Step
  pub next : ℕ

-- a walk, where local names have these types, in a function with these effects, new variables numbered from there
abbrev pub Walking : Type 0
Walking = Named Ty → Effects → ℕ → Walked

-- the type of an expression, and those of the nodes in it
abbrev pub all_types : Walked → List Ty
all_types w = w.ty ∷ w.inside

-- ---- expressions one after another

pub record WalkedAll : Type 0 where
  pub types : List Ty
  pub inside : List Ty
  pub steps : List Step
  pub next : ℕ

abbrev pub before_all : Walked → WalkedAll → WalkedAll
before_all w rest = record { types = w.ty ∷ rest.types; inside = all_types w ++ rest.inside; steps = w.steps ++ rest.steps; next = rest.next }

abbrev pub walk_all : List Walking → Named Ty → Effects → ℕ → WalkedAll
walk_all [] names effects n = record { types = []; inside = []; steps = []; next = n }
walk_all (w ∷ ws) names effects n = before_all (w names effects n) (walk_all ws names effects (w names effects n).next)

-- ---- what is said of a node

-- equations on the way, and the next number for a variable
pub record Told : Type 0 where
  pub equations : List Equation
  pub next : ℕ

abbrev pub told : List Equation → ℕ → Told
told equations next = record { equations = equations; next = next }

-- the effects have that one, if this holds
abbrev pub has_if : Bool → Effects → Effect → ℕ → Told
has_if true effects e n = told (has effects e n ∷ []) (1 + n)
has_if false effects e n = told [] n

-- a node behind its parts, with a variable for its type
abbrev pub ended : Span → List Ty → List Step → Own → Walked
ended at inside steps o = record { ty = ty.Var o.next; inside = inside; steps = steps ++ (same_at at o.equations ++ typed_at at o.next o.ty ∷ []); next = 1 + o.next }

-- ---- forms that bind names

-- parameters, each of some type
abbrev pub params_from : ℕ → List Word → Named Ty
params_from n [] = []
params_from n (x ∷ xs) = (x.text, ty.Var n) ∷ params_from (1 + n) xs

-- a lambda with parameters and effects of its own
abbrev pub lambda_ended : Span → Effects → Named Ty → Effects → Told → Walked → Walked
lambda_ended at effects params own_effects marked body =
    ended at (all_types body) (same_at at marked.equations ++ body.steps) (own (ty.Fun (types_of params) own_effects body.ty) (has effects effect.Local body.next ∷ []) (1 + body.next))

abbrev pub lambda_walked : Span → List Word → Loc → Walking → Walking
lambda_walked at params place body names effects n =
    let own_effects : Effects = effects_of [] (Var n) in
    let named_params : Named Ty = params_from (1 + n) params in
    let marked : Told = has_if (is_marked place) own_effects effect.Move (length params + (1 + n)) in
    lambda_ended at effects named_params own_effects marked (body (named_params ++ names) own_effects marked.next)

-- first one expression and then another one
abbrev pub var_ended : Span → Walked → Walked → Walked
var_ended at first last = ended at (all_types first ++ all_types last) (first.steps ++ last.steps) (own last.ty [] last.next)

abbrev pub var_walked : Span → Label → Walking → Walking → Walking
var_walked at x first last names effects n =
    let w : Walked = first names effects n in
    var_ended at w (last ((x, w.ty) ∷ names) effects w.next)

-- a case, by its tag and the name of what the tag holds
pub record CaseWalk : Type 0 where
  pub tag : Label
  pub name : Option Label
  pub body : Walking

-- tags with the types of what they hold, and the bodies
pub record WalkedCases : Type 0 where
  pub tags : Named Ty
  pub bodies : WalkedAll

abbrev pub before_cases : Label → Ty → Walked → WalkedCases → WalkedCases
before_cases tag t body rest = record { tags = (tag, t) ∷ rest.tags; bodies = before_all body rest.bodies }

-- what a tag holds: something of some type, with a name for it, or the unit value
pub record Held : Type 0 where
  pub ty : Ty
  pub bound : Named Ty
  pub next : ℕ

abbrev pub held_by : Option Label → ℕ → Held
held_by None n = record { ty = unit; bound = []; next = n }
held_by (Some x) n = record { ty = ty.Var n; bound = (x, ty.Var n) ∷ []; next = 1 + n }

abbrev pub walk_cases : List CaseWalk → Named Ty → Effects → ℕ → WalkedCases
walk_cases [] names effects n = record { tags = []; bodies = walk_all [] names effects n }
walk_cases (c ∷ cs) names effects n =
    let held : Held = held_by c.name n in
    let w : Walked = c.body (held.bound ++ names) effects held.next in
    before_cases c.tag held.ty w (walk_cases cs names effects w.next)

-- the type of the bodies, which have one type, and equations that say so; a new one where there is no body
abbrev pub one_type : List Ty → ℕ → Own
one_type [] n = own (ty.Var n) [] (1 + n)
one_type (t ∷ ts) n = own t (map (λ later. same later t) ts) n

abbrev pub switch_ended : Span → Effects → Walked → Ty → List Ty → List Step → Own → Walked
switch_ended at effects value variant inside steps bodies =
    ended at (all_types value ++ inside) (value.steps ++ steps) (own bodies.ty (same value.ty variant ∷ bodies.equations ++ has effects effect.Local bodies.next ∷ []) (1 + bodies.next))

-- behind the other cases: a last case is for the tags that the variant has besides, which are one row in both places
abbrev pub last_walked : Span → Effects → Walked → WalkedCases → Option (Label × Walking) → Named Ty → Walked
last_walked at effects value cases None names =
    switch_ended at effects value (variant_of cases.tags Closed) cases.bodies.inside cases.bodies.steps (one_type cases.bodies.types cases.bodies.next)
last_walked at effects value cases (Some (x, body)) names =
    let n : ℕ = cases.bodies.next in
    let w : Walked = body ((x, variant_of [] (Var n)) ∷ names) effects (1 + n) in
    switch_ended at effects value (variant_of cases.tags (Var n)) (cases.bodies.inside ++ all_types w) (cases.bodies.steps ++ w.steps) (one_type (cases.bodies.types ++ w.ty ∷ []) w.next)

abbrev pub switch_walked : Span → Walking → List CaseWalk → Option (Label × Walking) → Walking
switch_walked at value cases last names effects n =
    let w : Walked = value names effects n in
    last_walked at effects w (walk_cases cases names effects w.next) last names

abbrev pub for_ended : Span → Walked → Walked → List Step → List Equation → Walked
for_ended at first body steps equations =
    let answer : Ty = ty.List (ty.Var body.next) in
    ended at (all_types first ++ all_types body) steps (own answer (equations ++ same body.ty answer ∷ []) (1 + body.next))

-- over a list, of which each element is of some type
abbrev pub for_list_walked : Span → Label → Walking → Walking → Walking
for_list_walked at x list body names effects n =
    let element : Ty = ty.Var n in
    let w : Walked = list names effects (1 + n) in
    let inner : Walked = body ((x, element) ∷ names) effects w.next in
    for_ended at w inner (w.steps ++ inner.steps) (same w.ty (ty.List element) ∷ [])

-- Over a table, whose rows are known before the body.
abbrev pub for_table_walked : Span → Label → Walking → Walking → Walking
for_table_walked at x table body names effects n =
    let element : Ty = ty.Var n in
    let w : Walked = table names effects (1 + n) in
    let inner : Walked = body ((x, element) ∷ names) effects w.next in
    for_ended at w inner (w.steps ++ (same_at at (same w.ty (ty.List element) ∷ []) ++ inner.steps)) []

-- the rows of a list have the labels of the keys
abbrev pub keys_told : Ty → List SortKey → ℕ → Told
keys_told t [] n = told [] n
keys_told t (key ∷ keys) n =
    let rest : Told = keys_told t keys (2 + n) in
    told (same t (ty.List (record_of ((key.label.text, ty.Var n) ∷ []) (Var (1 + n)))) ∷ rest.equations) rest.next

abbrev pub query_ended : Span → List SortKey → Effects → Walked → Walked
query_ended at keys effects body =
    let n : ℕ = body.next in
    let ordered : Told = keys_told body.ty keys (1 + n) in
    let by_client : Told = has_if (is_there keys) effects effect.Local (1 + ordered.next) in
    ended at (all_types body) body.steps (own body.ty (same body.ty (ty.List (ty.Var n)) ∷ ordered.equations ++ has effects effect.Scan ordered.next ∷ by_client.equations) by_client.next)

-- what stands in a query does nothing but read tables
abbrev pub query_walked : Span → List SortKey → Walking → Walking
query_walked at keys body names effects n = query_ended at keys effects (body names (effects_of (effect.Scan ∷ []) Closed) n)

pub record ChangeWalk : Type 0 where
  pub name : Label
  pub table : Label
  pub cond : Walking
  pub sets : List (Label × Walking)

-- each field that is set is one of the rows
abbrev pub sets_told : Ty → Named Ty → ℕ → Told
sets_told t [] n = told [] n
sets_told t (set ∷ sets) n =
    let rest : Told = sets_told t sets (1 + n) in
    told (same t (record_of (set ∷ []) (Var n)) ∷ rest.equations) rest.next

abbrev pub set_own : Effects → Ty → Ty → Option (Named Ty × List Ty) → ℕ → Own
set_own effects t cond (Some (sets, [])) n =
    let told_sets : Told = sets_told t sets n in
    own unit (same cond ty.Bool ∷ told_sets.equations ++ has effects effect.Write told_sets.next ∷ []) (1 + told_sets.next)
set_own effects t cond _ n = never n

abbrev pub change_ended : Span → Effects → Ty → List Label → Walked → WalkedAll → Walked
change_ended at effects t labels cond sets =
    ended at (all_types cond ++ sets.inside) (cond.steps ++ sets.steps) (set_own effects t cond.ty (labelled labels sets.types) sets.next)

-- the condition and what is set are in a function without effects
abbrev pub change_in : Span → ChangeWalk → Option TableDecl → Walking
change_in at change None names effects n = ended at [] [] (never n)
change_in at change (Some table) names effects n =
    let inner : Named Ty = (change.name, row_of table) ∷ names in
    let none : Effects = effects_of [] Closed in
    let cond : Walked = change.cond inner none n in
    change_ended at effects (row_of table) (map (λ set. set.0) change.sets) cond (walk_all (map (λ set. set.1) change.sets) inner none cond.next)

-- ---- all of them

pub record LambdaWalk : Type 0 where
  pub params : List Word
  pub place : Loc
  pub body : Walking

abbrev pub PartWalk : Type 0
PartWalk = Label × Walking

abbrev pub Level : Type 0
Level = Node-F (Span → Walking) CaseWalk ChangeWalk Walking LambdaWalk PartWalk PartWalk

module _ (functions : Named (Entry Ty)) (tables : List TableDecl) where
  -- an operator over its parts
  abbrev pub plain_walked : Span → Head → List Walking → Walking
  plain_walked at h ws names effects n =
      let found : WalkedAll = walk_all ws names effects n in
      ended at found.inside found.steps (equations_of functions tables names effects h found.types found.next)

  abbrev pub binder_walked : Span → Level → Walking
  binder_walked at (Node-F.Lambda l) = lambda_walked at l.params l.place l.body
  binder_walked at (Node-F.Var x first rest) = var_walked at x.text first rest
  binder_walked at (Node-F.Switch value cases last) = switch_walked at value cases last
  binder_walked at (Node-F.ForList x list body) = for_list_walked at x.text list body
  binder_walked at (Node-F.ForTable x table body) = for_table_walked at x.text table body
  binder_walked at (Node-F.Query keys body) = query_walked at keys body
  binder_walked at (Node-F.Update change) = λ names. change_in at change (table_named tables change.table) names
  binder_walked at (Node-F.Delete change) = λ names. change_in at change (table_named tables change.table) names
  binder_walked at other = λ names effects n. ended at [] [] (never n)

  abbrev pub walked_by : Option Head → List Walking → Level → Span → Walking
  walked_by (Some h) ws level at = plain_walked at h ws
  walked_by None ws level at = binder_walked at level

  abbrev pub node_walked : Level → Span → Walking
  node_walked level at = walked_by (head (λ part. part.0) (λ part. part.1) level) (parts (λ part. part.0) (λ part. part.1) level) level at

  abbrev pub expr_walked : Expr-F (Span → Walking) CaseWalk ChangeWalk Walking LambdaWalk PartWalk PartWalk → Walking
  expr_walked e = e.node e.span

  abbrev pub part_walked : PartExpr-F (Span → Walking) CaseWalk ChangeWalk Walking LambdaWalk PartWalk PartWalk → PartWalk
  part_walked part = (part.label.text, part.expr)

  abbrev pub case_walked : Case-F (Span → Walking) CaseWalk ChangeWalk Walking LambdaWalk PartWalk PartWalk → CaseWalk
  case_walked case = record { tag = case.tag.text; name = option_map (λ x. x.text) case.name; body = case.body }

  abbrev pub last_case_walked : LastCase-F (Span → Walking) CaseWalk ChangeWalk Walking LambdaWalk PartWalk PartWalk → PartWalk
  last_case_walked last = (last.name.text, last.body)

  abbrev pub changed : ChangeExpr-F (Span → Walking) CaseWalk ChangeWalk Walking LambdaWalk PartWalk PartWalk → ChangeWalk
  changed change = record { name = change.name.text; table = change.table.text; cond = change.cond; sets = change.sets }

  abbrev pub lambda_of : LambdaExpr-F (Span → Walking) CaseWalk ChangeWalk Walking LambdaWalk PartWalk PartWalk → LambdaWalk
  lambda_of lambda = record { params = lambda.params; place = lambda.place; body = lambda.body }

  -- the walk through an expression
  unfoldable pub walk : Expr → Walking
  walk = fold-Expr (Span → Walking) CaseWalk ChangeWalk Walking LambdaWalk PartWalk PartWalk node_walked case_walked changed expr_walked lambda_of last_case_walked part_walked

  -- the same of what stands in an expression
  unfoldable pub walk_node : Node → Span → Walking
  walk_node = fold-Node (Span → Walking) CaseWalk ChangeWalk Walking LambdaWalk PartWalk PartWalk node_walked case_walked changed expr_walked lambda_of last_case_walked part_walked

  unfoldable pub walk_case : Case → CaseWalk
  walk_case = fold-Case (Span → Walking) CaseWalk ChangeWalk Walking LambdaWalk PartWalk PartWalk node_walked case_walked changed expr_walked lambda_of last_case_walked part_walked

  unfoldable pub walk_change : ChangeExpr → ChangeWalk
  walk_change = fold-ChangeExpr (Span → Walking) CaseWalk ChangeWalk Walking LambdaWalk PartWalk PartWalk node_walked case_walked changed expr_walked lambda_of last_case_walked part_walked

  unfoldable pub walk_lambda : LambdaExpr → LambdaWalk
  walk_lambda = fold-LambdaExpr (Span → Walking) CaseWalk ChangeWalk Walking LambdaWalk PartWalk PartWalk node_walked case_walked changed expr_walked lambda_of last_case_walked part_walked

  unfoldable pub walk_last : LastCase → PartWalk
  walk_last = fold-LastCase (Span → Walking) CaseWalk ChangeWalk Walking LambdaWalk PartWalk PartWalk node_walked case_walked changed expr_walked lambda_of last_case_walked part_walked

  unfoldable pub walk_part : PartExpr → PartWalk
  walk_part = fold-PartExpr (Span → Walking) CaseWalk ChangeWalk Walking LambdaWalk PartWalk PartWalk node_walked case_walked changed expr_walked lambda_of last_case_walked part_walked
