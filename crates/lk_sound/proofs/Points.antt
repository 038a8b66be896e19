-- Points at the parts of an expression, and nodes by what stands in them.
use Rattle.std.proofs.Common.{◌≡◌, sym, subst, ap, ◌∙◌, false, List, [], ◌∷◌, ◌++◌, map}
use Rattle.lk_ast.specs.Layers.{Layer, layer}
use Rattle.lk_ast.specs.declared.declaration.Program.{Program}
use Rattle.lk_ast.specs.declared.expression.Case.{Case}
use Rattle.lk_ast.specs.declared.expression.Expr.{Expr}
use Rattle.lk_ast.specs.declared.value.Value.{Value}
use Rattle.lk_evaluation.specs.Source.{Point, under, act}
use Rattle.lk_evaluation.specs.Syntax.{parts_of}
use Rattle.lk_locals.specs.Names.{Names}
use Rattle.lk_types.proofs.Members.{each_front, each_back}
use Rattle.lk_types.specs.Each.{Each}
use Rattle.lk_types.specs.Rows.{EffectSet}
use Rattle.lk_types.specs.declared.ground.Ground.{Ground}
use Rattle.lk_typing.specs.Names.{Named, Entry}
use Rattle.lk_ast.specs.Tables.{tables_of}
use Rattle.lk_typing.specs.Typing.{HasType, HaveTypes, HaveCases, IsHeld, none as no_part, more as part_more, no_cases, case_of}
use Rattle.lk_sound.specs.Acts.{IsAct, ArePoints, IsNode, none, more}
use Rattle.lk_sound.specs.Instances.{Instances, IsFine}
use Rattle.lk_sound.specs.Nodes.{nodes_of, each_nodes, case_nodes}
use Rattle.lk_sound.specs.Points.{IsPoint, AreLocals}
use Rattle.lk_sound.specs.Values.{Fits, FitEach}
use Rattle.lk_sound.proofs.Fitting.{on_none, on_one}
use Rattle.lk_sound.proofs.Stands.{StandsIn, parts_stand}

-- ---- typed expressions with fine nodes

module _ (p : Program) (i : Instances) (functions : Named (Entry Ground)) where
  -- the expression has the type, and its nodes are fine
  pub record IsTyped (locals : Named Ground) (effects : EffectSet) (e : Expr) (t : Ground) : Type 0 where
    pub inside : List Ground
    pub typed : HasType functions (tables_of p) locals effects e t inside
    pub fine : Each (IsFine i) (nodes_of false typed)

  -- the first expression has the first type, and so on
  pub data AreTyped (locals : Named Ground) (effects : EffectSet) : List Expr → List Ground → Type 0 where
    no_typed : AreTyped locals effects [] []
    typed_more : {e : Expr} {es : List Expr} {t : Ground} {ts : List Ground} → IsTyped locals effects e t → AreTyped locals effects es ts → AreTyped locals effects (e ∷ es) (t ∷ ts)

  -- cases with the types of their bodies, and their tags with the types of what these hold
  pub data AreCases (locals : Named Ground) (effects : EffectSet) : List Case → List Ground → Named Ground → Type 0 where
    no_case : AreCases locals effects [] [] []
    case_more : {case : Case} {cases : List Case} {t : Ground} {ts : List Ground} {tags : Named Ground} (a : Ground) (bound : Named Ground) → IsHeld case.name a bound → IsTyped (bound ++ locals) effects case.body t
        → AreCases locals effects cases ts tags → AreCases locals effects (case ∷ cases) (t ∷ ts) ((case.tag.text, a) ∷ tags)

  pub each_typed : {locals : Named Ground} {effects : EffectSet} {es : List Expr} {ts inside : List Ground} (have : HaveTypes functions (tables_of p) locals effects es ts inside) → Each (IsFine i) (each_nodes false have) → AreTyped locals effects es ts
  unfolding each_nodes
  each_typed no_part fine = no_typed
  each_typed (part_more inside rest typed have) fine =
      typed_more (record { inside = inside; typed = typed; fine = each_front (IsFine i) (nodes_of false typed) (each_nodes false have) fine }) (each_typed have (each_back (IsFine i) (nodes_of false typed) (each_nodes false have) fine))

  pub cases_typed : {locals : Named Ground} {effects : EffectSet} {cases : List Case} {ts : List Ground} {tags : Named Ground} {inside : List Ground} (have : HaveCases functions (tables_of p) locals effects cases ts tags inside)
      → Each (IsFine i) (case_nodes false have) → AreCases locals effects cases ts tags
  unfolding case_nodes
  cases_typed no_cases fine = no_case
  cases_typed (case_of a bound inside rest held typed have) fine =
      case_more a bound held (record { inside = inside; typed = typed; fine = each_front (IsFine i) (nodes_of false typed) (case_nodes false have) fine }) (cases_typed have (each_back (IsFine i) (nodes_of false typed) (case_nodes false have) fine))

-- ---- points

module _ (p : Program) (i : Instances) (functions : Named (Entry Ground)) (effects : EffectSet) where
  -- an expression that has a type, under names that fit
  pub at : (locals : Named Ground) (names : Names) → AreLocals p i locals names → (e : Expr) (t : Ground) → IsTyped p i functions locals effects e t → StandsIn p e → IsPoint p i effects t (under names e)
  at locals names fit e t is (within, blocks) = record { functions = functions; locals = locals; inside = is.inside; typed = is.typed; fine = is.fine; fit = fit; within = within; blocks = blocks }

  -- expressions one after another
  pub at_each : (locals : Named Ground) (names : Names) → AreLocals p i locals names → (es : List Expr) (ts : List Ground) → AreTyped p i functions locals effects es ts → Each (StandsIn p) es
      → ArePoints p i effects (map (under names) es) ts
  at_each locals names fit _ _ no_typed stands = none
  at_each locals names fit _ _ (typed_more {e} {es} {t} {ts} is are) (here, stands) = more (at locals names fit e t is here) (at_each locals names fit es ts are stands)

-- a node by its layer
pub node_by : (p : Program) (i : Instances) (effects : EffectSet) (t : Ground) (point : Point) (l : Layer) → layer point.expr ≡ l → (types : List Ground) → ArePoints p i effects (map (under point.names) (parts_of l)) types
    → ((values : List Value) → FitEach p i values types → IsAct p i effects t (act p point.expr.span l point.names values)) → IsNode p i effects t point
node_by p i effects t point l is types parts acts = record {
  types = types;
  parts = subst (λ x. ArePoints p i effects (map (under point.names) (parts_of x)) types) (sym is) parts;
  acts = λ values fit. subst (λ x. IsAct p i effects t (act p point.expr.span x point.names values)) (sym is) (acts values fit);
}

-- ---- nodes at a point with a type

module _ (p : Program) (i : Instances) (functions : Named (Entry Ground)) (effects : EffectSet) (locals : Named Ground) (point : Point) (fit : AreLocals p i locals point.names) (stands : StandsIn p point.expr) where
  -- without parts
  pub alone : (t : Ground) (l : Layer) → layer point.expr ≡ l → parts_of l ≡ [] → IsAct p i effects t (act p point.expr.span l point.names []) → IsNode p i effects t point
  alone t l is no_parts sound =
      node_by p i effects t point l is [] (subst (λ es. ArePoints p i effects (map (under point.names) es) []) (sym no_parts) none)
      (on_none p i (λ values. IsAct p i effects t (act p point.expr.span l point.names values)) sound)

  -- with these parts
  pub with_parts : (t : Ground) (l : Layer) (es : List Expr) (ts : List Ground) → layer point.expr ≡ l → parts_of l ≡ es → AreTyped p i functions locals effects es ts
      → ((values : List Value) → FitEach p i values ts → IsAct p i effects t (act p point.expr.span l point.names values)) → IsNode p i effects t point
  with_parts t l es ts is are have acts =
      node_by p i effects t point l is ts
      (subst (λ xs. ArePoints p i effects (map (under point.names) xs) ts) (sym are)
      (at_each p i functions effects locals point.names fit es ts have (subst (λ xs. Each (StandsIn p) xs) (ap parts_of is ∙ are) (parts_stand p point.expr stands))))
      acts

  -- with this part alone
  pub with_first : (t a : Ground) (l : Layer) (d : Expr) → layer point.expr ≡ l → parts_of l ≡ d ∷ [] → IsTyped p i functions locals effects d a
      → ((v : Value) → Fits p i v a → IsAct p i effects t (act p point.expr.span l point.names (v ∷ []))) → IsNode p i effects t point
  with_first t a l d is one typed acts =
      with_parts t l (d ∷ []) (a ∷ []) is one (typed_more typed no_typed) (on_one p i (λ values. IsAct p i effects t (act p point.expr.span l point.names values)) a acts)
