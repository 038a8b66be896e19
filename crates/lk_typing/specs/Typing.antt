-- The typing rules of expressions over ground types. `HasType names effects e t inside`: where the local names have these
-- types, in a function with these effects, the expression has the type `t`, and the nodes in it have the types `inside`, in
-- text order, each before those of the nodes in it. There are no unknowns here and nothing is solved.
use Rattle.std.specs.Prelude.{◌≡◌, Bool, true, false, List, [], ◌∷◌, ◌++◌, Option, Some, None, map}
use Rattle.lk_ast.specs.Children.{exprs_of}
use Rattle.lk_ast.specs.Layers.{layer}
use Rattle.lk_ast.specs.declared.declaration.TableDecl.{TableDecl}
use Rattle.lk_ast.specs.declared.expression.Case.{Case}
use Rattle.lk_ast.specs.declared.expression.ChangeExpr.{ChangeExpr, out-ChangeExpr}
use Rattle.lk_ast.specs.declared.expression.Expr.{Expr}
use Rattle.lk_ast.specs.declared.expression.LambdaExpr.{LambdaExpr}
use Rattle.lk_ast.specs.declared.expression.LastCase.{LastCase}
use Rattle.lk_ast.specs.declared.expression.Node.TheOpen.{Node-F}
use Rattle.lk_ast.specs.declared.expression.PartExpr.{PartExpr}
use Rattle.lk_ast.specs.declared.expression.SortKey.{SortKey}
use Rattle.lk_ast.specs.declared.place.Loc.{Loc}
use Rattle.lk_ast.specs.declared.place.Loc.TheVariants as place
use Rattle.lk_ast.specs.declared.place.Word.{Word}
use Rattle.lk_types.specs.Each.{Each}
use Rattle.lk_types.specs.Rows.{Label, Row, EffectSet, no_fields, no_effects}
use Rattle.lk_types.specs.declared.ground.Ground.{Ground}
use Rattle.lk_types.specs.declared.ground.Ground.TheVariants as known
use Rattle.lk_types.specs.declared.ty.Effect.{Effect}
use Rattle.lk_types.specs.declared.ty.Effect.TheVariants as effect
use Rattle.lk_typing.specs.Heads.{Head, head, parts}
use Rattle.lk_typing.specs.Names.{Named, names_of, types_of, texts, Entry, HasRows}
use Rattle.lk_typing.specs.Rules.{Rule}
use Rattle.lk_typing.specs.Types.{record_of, variant_of, unit, function_of, with_fields, only_scan, labelled}

-- ---- the forms of an expression

abbrev pub label_of : PartExpr → Label
label_of part = part.label.text

abbrev pub expr_of : PartExpr → Expr
expr_of part = part.expr

-- what it is, if it is an operator over its parts, and those parts
abbrev pub head_of : Expr → Option Head
head_of e = head label_of expr_of (layer e)

abbrev pub parts_of : Expr → List Expr
parts_of e = parts label_of expr_of (layer e)

-- whether a function is marked with its place
abbrev pub is_marked : Loc → Bool
is_marked place.Any = false
is_marked place.Client = true
is_marked place.Server = true

-- the effect is there if this holds
abbrev pub HasIf : Bool → EffectSet → Effect → Type 0
HasIf true effects e = effects e ≡ true
HasIf false effects e = Unit {0}

abbrev pub is_there : {A : Type 0} → List A → Bool
is_there [] = false
is_there (x ∷ xs) = true

-- the labels of what an update sets
abbrev pub labels_of : List PartExpr → List Label
labels_of sets = map label_of sets

-- a record of such a type has a field with this label
abbrev pub HasField : Ground → Label → Ground → Type 0
HasField t l a = (other row : Row) × (t ≡ record_of row) × (with_fields ((l, a) ∷ []) other ≡ Some row)

-- rows have the label of this key
abbrev pub IsKeyOf : Ground → SortKey → Type 0
IsKeyOf row key = (a : Ground) × HasField row key.label.text a

-- What a tag holds, by the name that a case has for it: something of any type, or without a name the unit value.
pub data IsHeld : Option Word → Ground → Named Ground → Type 0 where
  under_name : {x : Word} {a : Ground} → IsHeld (Some x) a ((x.text, a) ∷ [])
  bare : IsHeld None unit []

module _ (functions : Named (Entry Ground)) (tables : List TableDecl) where
  mutual
    pub data HasType : Named Ground → EffectSet → Expr → Ground → List Ground → Type 0 where
      -- an operator over its parts
      plain : {names : Named Ground} {effects : EffectSet} {e : Expr} {t : Ground} {inside : List Ground} (h : Head) (ts : List Ground)
          → head_of e ≡ Some h
          → HaveTypes names effects (parts_of e) ts inside
          → Rule functions tables names effects h ts t
          → HasType names effects e t inside
      -- a lambda has effects of its own, and `move` among them if it is marked with a place
      lambda : {names : Named Ground} {effects : EffectSet} {e : Expr} {inside : List Ground} (l : LambdaExpr) (params : Named Ground) (own : EffectSet) (b : Ground)
          → layer e ≡ Node-F.Lambda l
          → names_of params ≡ texts l.params
          → HasIf (is_marked l.place) own effect.Move
          → HasType (params ++ names) own l.body b inside
          → effects effect.Local ≡ true
          → HasType names effects e (function_of (types_of params) own b) (b ∷ inside)
      var : {names : Named Ground} {effects : EffectSet} {e : Expr} {t : Ground} (x : Word) (d rest : Expr) (a : Ground) (first last : List Ground)
          → layer e ≡ Node-F.Var x d rest
          → HasType names effects d a first
          → HasType ((x.text, a) ∷ names) effects rest t last
          → HasType names effects e t ((a ∷ first) ++ (t ∷ last))
      -- all tags that the value may have are among the cases
      switch : {names : Named Ground} {effects : EffectSet} {e : Expr} {t : Ground} (d : Expr) (cases : List Case) (row : Row) (tags : Named Ground) (ts first bodies : List Ground)
          → layer e ≡ Node-F.Switch d cases None
          → HasType names effects d (variant_of row) first
          → HaveCases names effects cases ts tags bodies
          → Each (λ u. u ≡ t) ts
          → with_fields tags no_fields ≡ Some row
          → effects effect.Local ≡ true
          → HasType names effects e t ((variant_of row ∷ first) ++ bodies)
      -- the last case is for all others, whatever they are
      switch_open : {names : Named Ground} {effects : EffectSet} {e : Expr} {t : Ground} (d : Expr) (cases : List Case) (last : LastCase) (other row : Row) (tags : Named Ground) (ts first bodies inside : List Ground)
          → layer e ≡ Node-F.Switch d cases (Some last)
          → HasType names effects d (variant_of row) first
          → HaveCases names effects cases ts tags bodies
          → Each (λ u. u ≡ t) ts
          → HasType ((last.name.text, variant_of other) ∷ names) effects last.body t inside
          → with_fields tags other ≡ Some row
          → effects effect.Local ≡ true
          → HasType names effects e t ((variant_of row ∷ first) ++ (bodies ++ (t ∷ inside)))
      for_list : {names : Named Ground} {effects : EffectSet} {e : Expr} (x : Word) (d body : Expr) (a b : Ground) (first inside : List Ground)
          → layer e ≡ Node-F.ForList x d body
          → HasType names effects d (known.List a) first
          → HasType ((x.text, a) ∷ names) effects body (known.List b) inside
          → HasType names effects e (known.List b) ((known.List a ∷ first) ++ (known.List b ∷ inside))
      for_table : {names : Named Ground} {effects : EffectSet} {e : Expr} (x : Word) (rows body : Expr) (a b : Ground) (first inside : List Ground)
          → layer e ≡ Node-F.ForTable x rows body
          → HasType names effects rows (known.List a) first
          → HasType ((x.text, a) ∷ names) effects body (known.List b) inside
          → HasType names effects e (known.List b) ((known.List a ∷ first) ++ (known.List b ∷ inside))
      -- what stands in a query does nothing but read tables
      query : {names : Named Ground} {effects : EffectSet} {e : Expr} (keys : List SortKey) (body : Expr) (a : Ground) (inside : List Ground)
          → layer e ≡ Node-F.Query keys body
          → HasType names only_scan body (known.List a) inside
          → Each (IsKeyOf a) keys
          → effects effect.Scan ≡ true
          → HasIf (is_there keys) effects effect.Local
          → HasType names effects e (known.List a) (known.List a ∷ inside)
      update : {names : Named Ground} {effects : EffectSet} {e : Expr} {inside : List Ground} (change : ChangeExpr)
          → layer e ≡ Node-F.Update change
          → IsChange names change inside
          → effects effect.Write ≡ true
          → HasType names effects e unit inside
      delete : {names : Named Ground} {effects : EffectSet} {e : Expr} {inside : List Ground} (change : ChangeExpr)
          → layer e ≡ Node-F.Delete change
          → IsChange names change inside
          → effects effect.Write ≡ true
          → HasType names effects e unit inside

    -- expressions one after another
    pub data HaveTypes : Named Ground → EffectSet → List Expr → List Ground → List Ground → Type 0 where
      none : {names : Named Ground} {effects : EffectSet} → HaveTypes names effects [] [] []
      more : {names : Named Ground} {effects : EffectSet} {e : Expr} {es : List Expr} {t : Ground} {ts : List Ground} (inside rest : List Ground)
          → HasType names effects e t inside
          → HaveTypes names effects es ts rest
          → HaveTypes names effects (e ∷ es) (t ∷ ts) ((t ∷ inside) ++ rest)

    -- the cases of a `switch` with the types of their bodies, and their tags with the types of what these hold
    pub data HaveCases : Named Ground → EffectSet → List Case → List Ground → Named Ground → List Ground → Type 0 where
      no_cases : {names : Named Ground} {effects : EffectSet} → HaveCases names effects [] [] [] []
      case_of : {names : Named Ground} {effects : EffectSet} {case : Case} {cases : List Case} {t : Ground} {ts : List Ground} {tags : Named Ground} (a : Ground) (bound : Named Ground) (inside rest : List Ground)
          → IsHeld case.name a bound
          → HasType (bound ++ names) effects case.body t inside
          → HaveCases names effects cases ts tags rest
          → HaveCases names effects (case ∷ cases) (t ∷ ts) ((case.tag.text, a) ∷ tags) ((t ∷ inside) ++ rest)

    -- the condition and what is set, in a function without effects
    pub data IsChange : Named Ground → ChangeExpr → List Ground → Type 0 where
      changed : {names : Named Ground} {change : ChangeExpr} (row : Row) (sets : Named Ground) (ts cond rest : List Ground)
          → HasRows tables (out-ChangeExpr change).table.text row
          → HasType (((out-ChangeExpr change).name.text, record_of row) ∷ names) no_effects (out-ChangeExpr change).cond known.Bool cond
          → HaveTypes (((out-ChangeExpr change).name.text, record_of row) ∷ names) no_effects (exprs_of (out-ChangeExpr change).sets) ts rest
          → labelled (labels_of (out-ChangeExpr change).sets) ts ≡ Some (sets, [])
          → Each (λ set. HasField (record_of row) set.0 set.1) sets
          → IsChange names change ((known.Bool ∷ cond) ++ rest)
