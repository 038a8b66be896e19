-- Nodes that go on with a part in their stead: blocks, branches and loops; and printing.
use Rattle.std.proofs.Common.{◌≡◌, refl, sym, subst, Bool, true, false, List, [], ◌∷◌, map}
use Rattle.std.specs.Prelude.{Option, Some}
use Rattle.lk_ast.specs.Layers.{Layer, layer}
use Rattle.lk_ast.specs.declared.declaration.Program.{Program}
use Rattle.lk_ast.specs.declared.expression.Expr.{Expr}
use Rattle.lk_ast.specs.declared.expression.Node.TheOpen.{Node-F}
use Rattle.lk_ast.specs.declared.place.Word.{Word}
use Rattle.lk_ast.specs.declared.value.Value.{Value}
use Rattle.lk_evaluation.specs.Evaluation.{Act}
use Rattle.lk_evaluation.specs.Syntax.{parts_of}
use Rattle.lk_evaluation.specs.Source.{Point, under, act, after_unit, choose, print, over}
use Rattle.lk_locals.specs.Names.{bind}
use Rattle.lk_operators.specs.Values.{list_in, bool_in}
use Rattle.lk_types.specs.Each.{Each}
use Rattle.lk_types.specs.Rows.{EffectSet}
use Rattle.lk_types.specs.declared.ground.Ground.{Ground}
use Rattle.lk_types.specs.declared.ground.Ground.TheVariants as known
use Rattle.lk_typing.specs.Heads as head
use Rattle.lk_typing.specs.Names.{Named, Entry}
use Rattle.lk_ast.specs.Tables.{tables_of}
use Rattle.lk_typing.specs.Rules.{Rule, seq, branch, logic, filter}
use Rattle.lk_typing.specs.Rules as rule
use Rattle.lk_typing.specs.Types.{unit}
use Rattle.lk_sound.specs.Instances.{Instances}
use Rattle.lk_sound.specs.Acts.{IsAct, IsNode}
use Rattle.lk_sound.specs.Points.{IsPoint, AreLocals}
use Rattle.lk_sound.specs.Values.{Fits, AllFit, none as no_value, more as value_more}
use Rattle.lk_sound.proofs.Bindings.{bound_one}
use Rattle.lk_sound.proofs.Points.{at, IsTyped, AreTyped, no_typed as no_part, typed_more as part_more}
use Rattle.lk_sound.proofs.Points as points
use Rattle.lk_sound.proofs.Shapes.{unit_of_fits, bool_of_fits, text_of_fits, list_of_fits, truth_fits, list_fits}
use Rattle.lk_sound.proofs.Stands.{StandsIn, var_stands, seq_stands, if_stands, and_stands, or_stands, where_stands, for_list_stands, for_table_stands}

module _ (p : Program) (i : Instances) (functions : Named (Entry Ground)) (effects : EffectSet) (locals : Named Ground) (point : Point) (fit : AreLocals p i locals point.names) (stands : StandsIn p point.expr) where
  abbrev Typed : Expr → Ground → Type 0
  Typed = IsTyped p i functions locals effects

  -- a part that is evaluated in the stead of the node
  there : (e : Expr) (t : Ground) → Typed e t → StandsIn p e → IsPoint p i effects t (under point.names e)
  there = at p i functions effects locals point.names fit

  with_first : (t a : Ground) (l : Layer) (d : Expr) → layer point.expr ≡ l → parts_of l ≡ d ∷ [] → Typed d a → ((v : Value) → Fits p i v a → IsAct p i effects t (act p point.expr.span l point.names (v ∷ []))) → IsNode p i effects t point
  with_first = points.with_first p i functions effects locals point fit stands

  -- ---- blocks

  -- the rest of a block under one name more
  further : (x : Word) (v : Value) (a t : Ground) (rest : Expr) → Fits p i v a → IsTyped p i functions ((x.text, a) ∷ locals) effects rest t → StandsIn p rest
      → IsPoint p i effects t (under (bind x.text v point.names) rest)
  further x v a t rest fits typed here = at p i functions effects ((x.text, a) ∷ locals) (bind x.text v point.names) (bound_one p i x.text v a locals point.names fits fit) rest t typed here

  pub var_node : (x : Word) (d rest : Expr) (a t : Ground) → layer point.expr ≡ Node-F.Var x d rest → Typed d a → IsTyped p i functions ((x.text, a) ∷ locals) effects rest t → IsNode p i effects t point
  var_node x d rest a t is typed then =
      with_first t a (Node-F.Var x d rest) d is refl typed (λ v fits. further x v a t rest fits then (var_stands p point.expr is stands))

  after : (b : Bool) → b ≡ true → (t : Ground) (rest : Act Point) → IsAct p i effects t rest → IsAct p i effects t (after_unit point.expr.span b rest)
  after b is t rest sound = subst (λ x. IsAct p i effects t (after_unit point.expr.span x rest)) (sym is) sound

  pub seq_node : (d rest : Expr) (ts : List Ground) (t : Ground) → layer point.expr ≡ Node-F.Seq d rest → AreTyped p i functions locals effects (d ∷ rest ∷ []) ts → Rule functions (tables_of p) locals effects head.Seq ts t → IsNode p i effects t point
  seq_node d rest _ t is (part_more one (part_more two no_part)) seq =
      with_first t unit (Node-F.Seq d rest) d is refl one (λ v fits. after _ (unit_of_fits p i v fits) t _ (there rest t two (seq_stands p point.expr is stands)))

  -- ---- choices

  chosen : (found : Option Bool) (b : Bool) → found ≡ Some b → (t : Ground) (then other : Act Point) → IsAct p i effects t then → IsAct p i effects t other → IsAct p i effects t (choose point.expr.span found then other)
  chosen found true is t then other one two = subst (λ x. IsAct p i effects t (choose point.expr.span x then other)) (sym is) one
  chosen found false is t then other one two = subst (λ x. IsAct p i effects t (choose point.expr.span x then other)) (sym is) two

  by_truth : (v : Value) → Fits p i v known.Bool → (t : Ground) (then other : Act Point) → IsAct p i effects t then → IsAct p i effects t other → IsAct p i effects t (choose point.expr.span (bool_in v) then other)
  by_truth v fits t then other one two = let found = bool_of_fits p i v fits in chosen (bool_in v) found.0 found.1 t then other one two

  pub if_node : (c d e : Expr) (ts : List Ground) (t : Ground) → layer point.expr ≡ Node-F.If c d e → AreTyped p i functions locals effects (c ∷ d ∷ e ∷ []) ts → Rule functions (tables_of p) locals effects head.If ts t → IsNode p i effects t point
  if_node c d e _ t is (part_more one (part_more two (part_more three no_part))) branch =
      let here = if_stands p point.expr is stands in
      with_first t known.Bool (Node-F.If c d e) c is refl one (λ v fits. by_truth v fits t _ _ (there d t two here.0) (there e t three here.1))

  pub and_node : (a b : Expr) (ts : List Ground) (t : Ground) → layer point.expr ≡ Node-F.And a b → AreTyped p i functions locals effects (a ∷ b ∷ []) ts → Rule functions (tables_of p) locals effects head.Logic ts t → IsNode p i effects t point
  and_node a b _ _ is (part_more one (part_more two no_part)) logic =
      with_first known.Bool known.Bool (Node-F.And a b) a is refl one (λ v fits. by_truth v fits known.Bool _ _ (there b known.Bool two (and_stands p point.expr is stands)) (truth_fits p i false))

  pub or_node : (a b : Expr) (ts : List Ground) (t : Ground) → layer point.expr ≡ Node-F.Or a b → AreTyped p i functions locals effects (a ∷ b ∷ []) ts → Rule functions (tables_of p) locals effects head.Logic ts t → IsNode p i effects t point
  or_node a b _ _ is (part_more one (part_more two no_part)) logic =
      with_first known.Bool known.Bool (Node-F.Or a b) a is refl one (λ v fits. by_truth v fits known.Bool _ _ (truth_fits p i true) (there b known.Bool two (or_stands p point.expr is stands)))

  pub where_node : (c e : Expr) (ts : List Ground) (t : Ground) → layer point.expr ≡ Node-F.Where c e → AreTyped p i functions locals effects (c ∷ e ∷ []) ts → Rule functions (tables_of p) locals effects head.Where ts t → IsNode p i effects t point
  where_node c e _ _ is (part_more one (part_more two no_part)) (filter b) =
      with_first (known.List b) known.Bool (Node-F.Where c e) c is refl one (λ v fits. by_truth v fits (known.List b) _ _ (there e (known.List b) two (where_stands p point.expr is stands)) (list_fits p i [] b no_value))

  -- ---- loops

  turns : (x : Word) (body : Expr) (a b : Ground) → IsTyped p i functions ((x.text, a) ∷ locals) effects body (known.List b) → StandsIn p body
      → (values : List Value) → AllFit p i values a → Each (IsPoint p i effects (known.List b)) (map (λ v. under (bind x.text v point.names) body) values)
  turns x body a b typed here [] no_value = tt
  turns x body a b typed here (v ∷ values) (value_more fits all) = (further x v a (known.List b) body fits typed here, turns x body a b typed here values all)

  loop : (x : Word) (body : Expr) (a b : Ground) → IsTyped p i functions ((x.text, a) ∷ locals) effects body (known.List b) → StandsIn p body
      → (v : Value) → Fits p i v (known.List a) → IsAct p i effects (known.List b) (over point.expr.span x.text (list_in v) body point.names)
  loop x body a b typed here v fits =
      let found = list_of_fits p i v a fits in
      subst (λ o. IsAct p i effects (known.List b) (over point.expr.span x.text o body point.names)) (sym found.1) (b, refl, turns x body a b typed here found.0 found.2)

  pub for_list_node : (x : Word) (d body : Expr) (a b : Ground) → layer point.expr ≡ Node-F.ForList x d body → Typed d (known.List a) → IsTyped p i functions ((x.text, a) ∷ locals) effects body (known.List b) → IsNode p i effects (known.List b) point
  for_list_node x d body a b is one typed =
      with_first (known.List b) (known.List a) (Node-F.ForList x d body) d is refl one (loop x body a b typed (for_list_stands p point.expr is stands))

  pub for_table_node : (x : Word) (rows body : Expr) (a b : Ground) → layer point.expr ≡ Node-F.ForTable x rows body → Typed rows (known.List a) → IsTyped p i functions ((x.text, a) ∷ locals) effects body (known.List b) → IsNode p i effects (known.List b) point
  for_table_node x rows body a b is one typed =
      with_first (known.List b) (known.List a) (Node-F.ForTable x rows body) rows is refl one (loop x body a b typed (for_table_stands p point.expr is stands))

  -- ---- what one place alone can do

  pub print_node : (d : Expr) (ts : List Ground) (t : Ground) → layer point.expr ≡ Node-F.Print d → AreTyped p i functions locals effects (d ∷ []) ts → Rule functions (tables_of p) locals effects head.Print ts t → IsNode p i effects t point
  print_node d _ _ is (part_more one no_part) (rule.print prints) =
      with_first unit known.Text (Node-F.Print d) d is refl one (λ v fits.
      let found = text_of_fits p i v fits in
      subst (λ o. IsAct p i effects unit (print point.expr.span o)) (sym found.1) (prints, refl))
