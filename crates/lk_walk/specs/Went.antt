-- What a walker notes on its way, in the words of the walk.
use Rattle.std.specs.Prelude.{◌≡◌, ℕ, ◌+◌, List, [], ◌∷◌, ◌++◌, Option, Some, None, drop, length, map, set}
use Rattle.std.specs.Option.{option_map}
use Rattle.lk_ast.specs.Layers.{Layer, layer}
use Rattle.lk_ast.specs.declared.expression.Case.{Case}
use Rattle.lk_ast.specs.declared.expression.ChangeExpr.{ChangeExpr, out-ChangeExpr}
use Rattle.lk_ast.specs.declared.expression.Expr.{Expr}
use Rattle.lk_ast.specs.declared.expression.LastCase.{LastCase}
use Rattle.lk_ast.specs.declared.place.Span.{Span}
use Rattle.lk_ast.specs.declared.place.Word.{Word}
use Rattle.lk_types.specs.Rows.{Label}
use Rattle.lk_types.specs.declared.equation.Equation.{Equation}
use Rattle.lk_types.specs.declared.ty.Effects.{Effects}
use Rattle.lk_types.specs.declared.ty.RowTail.{RowTail}
use Rattle.lk_types.specs.declared.ty.RowTail.TheVariants.{Closed, Var}
use Rattle.lk_types.specs.declared.ty.Ty.{Ty}
use Rattle.lk_types.specs.declared.ty.Ty.TheVariants as ty
use Rattle.lk_types.specs.declared.ty.TyField.{TyField}
use Rattle.lk_typing.specs.Equations.{Own}
use Rattle.lk_typing.specs.Heads.{parts}
use Rattle.lk_typing.specs.Names.{Named, table_named}
use Rattle.lk_typing.specs.Steps.{same_at, typed_at}
use Rattle.lk_typing.specs.Typing.{label_of, expr_of, head_of}
use Rattle.lk_typing.specs.Unknowns.{variant_of}
use Rattle.lk_typing.specs.Walk.{Walking, Walked, WalkedAll, CaseWalk, ChangeWalk, PartWalk, Told, all_types, change_in, ended, held_by, params_from, walk, walk_all}
use Rattle.lk_typing.specs.declared.step.Step.{Step}
use Rattle.lk_equations.specs.Seen.{functions_seen, own_at}
use Rattle.lk_equations.specs.declared.own.Globals.{Globals}
use Rattle.lk_walk.specs.declared.walker.Walker.{Walker}

-- ---- single acts

-- a variable more
abbrev pub numbered : Walker → Walker
numbered s = record s { next = 1 + s.next }

-- a node more, whose type isn't known yet
abbrev pub entered : Walker → Walker
entered s = record s { types = s.types ++ ty.Int ∷ [] }

-- these equations are said
abbrev pub said : Span → List Equation → Walker → Walker
said at equations s = record s { steps = s.steps ++ same_at at equations }

-- the type of the node at this place among the nodes is this variable
abbrev pub settled : ℕ → ℕ → Walker → Walker
settled slot n s = record s { types = set s.types slot (ty.Var n) }

-- this is said of the node at this place among the nodes
abbrev pub left_by : Span → ℕ → Own → Walker → Walker
left_by at slot o s = record s { types = set s.types slot (ty.Var o.next); steps = s.steps ++ (same_at at o.equations ++ typed_at at o.next o.ty ∷ []); next = 1 + o.next }

-- ---- expressions

-- these nodes and steps more
abbrev pub grew : List Ty → List Step → ℕ → Walker → Walker
grew inside steps next s = record { names = s.names; types = s.types ++ inside; steps = s.steps ++ steps; next = next }

-- an expression more
abbrev pub went : Walking → Effects → Walker → Walker
went walk effects s = let w : Walked = walk s.names effects s.next in grew (all_types w) w.steps w.next s

abbrev pub type_at : Walking → Effects → Walker → Ty
type_at walk effects s = (walk s.names effects s.next).ty

-- expressions more, one after another
abbrev pub went_all : List Walking → Effects → Walker → Walker
went_all [] effects s = s
went_all (w ∷ ws) effects s = went_all ws effects (went w effects s)

-- types with those of the expressions behind them
abbrev pub types_all : List Walking → Effects → Walker → List Ty → List Ty
types_all [] effects s types = types
types_all (w ∷ ws) effects s types = types_all ws effects (went w effects s) (types ++ type_at w effects s ∷ [])

-- what is noted in a node, where that is said of the node itself
pub record Inner (at : Span) (w : Walked) (old new : Walker) (o : Own) : Type 0 where
  pub inside : List Ty
  pub steps : List Step
  pub is : w ≡ ended at inside steps o
  pub grown : new ≡ grew inside steps new.next old

-- ---- names

-- a name more, and these names less
abbrev pub named_by : Label → Ty → Walker → Walker
named_by x t s = record s { names = (x, t) ∷ s.names }

abbrev pub unbound : ℕ → Walker → Walker
unbound count s = record s { names = drop count s.names }

-- parameters more, each of some type
abbrev pub bound_all : List Word → Walker → Walker
bound_all params s = record s { names = params_from s.next params ++ s.names; next = length params + s.next }

-- what is told at a place of the text
abbrev pub told_by : Span → Told → Walker → Walker
told_by at told s = record s { steps = s.steps ++ same_at at told.equations; next = told.next }

-- a walk under more names
abbrev pub under_names : Named Ty → Walking → Walking
under_names more walk names effects n = walk (more ++ names) effects n

-- ---- cases

-- what a case holds has a number more
abbrev pub held : Option Label → Walker → Walker
held name s = record s { next = (held_by name s.next).next }

abbrev pub case_went : CaseWalk → Effects → Walker → Walker
case_went c effects s = went (under_names (held_by c.name s.next).bound c.body) effects (held c.name s)

abbrev pub case_type : CaseWalk → Effects → Walker → Ty
case_type c effects s = type_at (under_names (held_by c.name s.next).bound c.body) effects (held c.name s)

abbrev pub case_field : CaseWalk → Walker → TyField
case_field c s = record { label = c.tag; ty = (held_by c.name s.next).ty }

abbrev pub cases_went : List CaseWalk → Effects → Walker → Walker
cases_went [] effects s = s
cases_went (c ∷ cs) effects s = cases_went cs effects (case_went c effects s)

-- types with those of the bodies behind them, and fields with those of the tags
abbrev pub cases_types : List CaseWalk → Effects → Walker → List Ty → List Ty
cases_types [] effects s types = types
cases_types (c ∷ cs) effects s types = cases_types cs effects (case_went c effects s) (types ++ case_type c effects s ∷ [])

abbrev pub cases_fields : List CaseWalk → Effects → Walker → List TyField → List TyField
cases_fields [] effects s fields = fields
cases_fields (c ∷ cs) effects s fields = cases_fields cs effects (case_went c effects s) (fields ++ case_field c s ∷ [])

-- a case for other tags, which are a row
abbrev pub last_body : PartWalk → Walker → Walking
last_body last s = under_names ((last.0, variant_of [] (Var s.next)) ∷ []) last.1

abbrev pub last_went : Option PartWalk → Effects → Walker → Walker
last_went None effects s = s
last_went (Some last) effects s = went (last_body last s) effects (numbered s)

abbrev pub last_types : Option PartWalk → Effects → Walker → List Ty → List Ty
last_types None effects s types = types
last_types (Some last) effects s types = types ++ type_at (last_body last s) effects (numbered s) ∷ []

abbrev pub last_tail : Option PartWalk → Walker → RowTail
last_tail None s = Closed
last_tail (Some last) s = Var s.next

-- ---- what is seen

-- the walk through an expression, where a group of functions sees this
abbrev pub walk_in : Globals → Expr → Walking
walk_in seen = walk (functions_seen seen.own seen.earlier.now) seen.tables.now

-- the walks through the parts of a node that binds no name
abbrev pub part_walks : Globals → Layer → List Walking
part_walks seen l = map (walk_in seen) (parts label_of expr_of l)

-- the walk through an expression that binds no name
abbrev pub plain_in : Globals → Expr → Walking
plain_in seen e names effects n =
    let found : WalkedAll = walk_all (part_walks seen (layer e)) names effects n in
    ended e.span found.inside found.steps (own_at (functions_seen seen.own seen.earlier.now) seen.tables.now names effects (head_of e) found.types found.next)

abbrev pub case_in : Globals → Case → CaseWalk
case_in seen c = record { tag = c.tag.text; name = option_map (λ x. x.text) c.name; body = walk_in seen c.body }

abbrev pub last_in : Globals → LastCase → PartWalk
last_in seen last = (last.name.text, walk_in seen last.body)

abbrev pub change_walk : Globals → ChangeExpr → ChangeWalk
change_walk seen c = record {
  name = (out-ChangeExpr c).name.text;
  table = (out-ChangeExpr c).table.text;
  cond = walk_in seen (out-ChangeExpr c).cond;
  sets = map (λ part. (label_of part, walk_in seen (expr_of part))) (out-ChangeExpr c).sets;
}

abbrev pub change_walked : Span → Globals → ChangeExpr → Walking
change_walked at seen c names effects n = change_in at (change_walk seen c) (table_named seen.tables.now (out-ChangeExpr c).table.text) names effects n
