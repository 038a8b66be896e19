-- `switch`: the case of a value's tag goes on with what the tag holds, the last case with the whole value.
use Rattle.std.proofs.Common.{◌≡◌, ◌⊎◌, inl, inr, refl, sym, ◌∙◌, ap, subst, Bool, true, false, List, ◌∷◌, ◌++◌, bytes_eq, if◌then◌else◌}
use Rattle.std.specs.Prelude.{Option, Some, None}
use Rattle.lk_ast.specs.Layers.{layer}
use Rattle.lk_ast.specs.declared.declaration.Program.{Program}
use Rattle.lk_ast.specs.declared.expression.Case.{Case}
use Rattle.lk_ast.specs.declared.expression.Expr.{Expr}
use Rattle.lk_ast.specs.declared.expression.LastCase.{LastCase}
use Rattle.lk_ast.specs.declared.expression.Node.TheOpen.{Node-F}
use Rattle.lk_ast.specs.declared.place.Word.{Word}
use Rattle.lk_ast.specs.declared.value.Value.{Value}
use Rattle.lk_evaluation.specs.Evaluation.{Tail}
use Rattle.lk_evaluation.specs.Source.{Point, under, case_of, in_case, in_cases, switch, after_unit}
use Rattle.lk_locals.specs.Names.{bind}
use Rattle.lk_operators.specs.Values.{tag_in}
use Rattle.lk_types.specs.Each.{Each, OneOf}
use Rattle.lk_types.specs.Rows.{Label, Row, EffectSet, no_fields}
use Rattle.lk_types.specs.declared.ground.Ground.{Ground}
use Rattle.lk_typing.specs.Names.{Named, named, Entry}
use Rattle.lk_typing.specs.Types.{variant_of, with_fields}
use Rattle.lk_typing.specs.Typing.{IsHeld, under_name, bare}
use Rattle.lk_sound.specs.Instances.{Instances}
use Rattle.lk_sound.specs.Acts.{IsAct, IsNode}
use Rattle.lk_sound.specs.Points.{AreLocals}
use Rattle.lk_sound.specs.Values.{Fits}
use Rattle.lk_sound.proofs.Bindings.{bound_one}
use Rattle.lk_sound.proofs.Points.{at, IsTyped, AreCases, no_case as no_cases, case_more as one_case}
use Rattle.lk_sound.proofs.Points as points
use Rattle.lk_sound.proofs.Records.{IsCase, IsOther, tag_found, tag_split}
use Rattle.lk_sound.proofs.Shapes.{unit_of_fits}
use Rattle.lk_sound.proofs.Stands.{StandsIn, cases_stands, last_stands}
use Rattle.lk_types.proofs.Members.{each_in}

module _ (p : Program) (i : Instances) (functions : Named (Entry Ground)) (effects : EffectSet) (locals : Named Ground) where
  -- the case that has this tag, and its body
  pub record HasCase (t : Ground) (cases : List Case) (l : Label) (a : Ground) : Type 0 where
    pub case : Case
    pub first : case_of l cases ≡ Some case
    pub among : OneOf (λ c. c ≡ case) cases
    pub bound : Named Ground
    pub held : IsHeld case.name a bound
    pub typed : IsTyped p i functions (bound ++ locals) effects case.body t

  -- there is a case for each tag that has a type
  found_by : (b : Bool) (case : Case) (cases : List Case) (t : Ground) (tags : Named Ground) (l : Label) (a c : Ground) (bound : Named Ground) → bytes_eq case.tag.text l ≡ b
      → IsHeld case.name c bound → IsTyped p i functions (bound ++ locals) effects case.body t
      → (if b then Some c else named l tags) ≡ Some a → (named l tags ≡ Some a → HasCase t cases l a) → HasCase t (case ∷ cases) l a
  found_by true case cases t tags l a c bound is held typed found later =
      let same : c ≡ a = cc in
      record { case = case; first = ap (λ b. if b then Some case else case_of l cases) is; among = inl refl; bound = bound; held = subst (λ x. IsHeld case.name x bound) same held; typed = typed }
  found_by false case cases t tags l a c bound is held typed found later =
      let rest = later found in
      record { case = rest.case; first = ap (λ b. if b then Some case else case_of l cases) is ∙ rest.first; among = inr rest.among; bound = rest.bound; held = rest.held; typed = rest.typed }

  case_found : (t : Ground) (cases : List Case) (ts : List Ground) (tags : Named Ground) → AreCases p i functions locals effects cases ts tags → Each (λ u. u ≡ t) ts
      → (l : Label) (a : Ground) → named l tags ≡ Some a → HasCase t cases l a
  case_found t _ _ _ no_cases all l a found = absurd cc
  case_found t _ _ _ (one_case {case = case} {cases = cases} {t = u} {ts = us} {tags = tags} c bound held typed have) (same, all) l a found =
      found_by (bytes_eq case.tag.text l) case cases t tags l a c bound refl held (subst (λ x. IsTyped p i functions (bound ++ locals) effects case.body x) same typed) found
      (case_found t cases us tags have all l a)

  none_by : (b : Bool) (case : Case) (cases : List Case) (tags : Named Ground) (l : Label) (c : Ground) → bytes_eq case.tag.text l ≡ b → (if b then Some c else named l tags) ≡ None → (named l tags ≡ None → case_of l cases ≡ None) → case_of l (case ∷ cases) ≡ None
  none_by true case cases tags l c is found later = absurd cc
  none_by false case cases tags l c is found later = ap (λ b. if b then Some case else case_of l cases) is ∙ later found

  -- and none for a tag that has no type among them
  unmet_by : (cases : List Case) (ts : List Ground) (tags : Named Ground) → AreCases p i functions locals effects cases ts tags → (l : Label) → named l tags ≡ None → case_of l cases ≡ None
  unmet_by _ _ _ no_cases l found = refl
  unmet_by _ _ _ (one_case {case = case} {cases = cases} {t = u} {ts = us} {tags = tags} c bound held typed have) l found = none_by (bytes_eq case.tag.text l) case cases tags l c refl found (unmet_by cases us tags have l)

  module _ (point : Point) (fit : AreLocals p i locals point.names) (stands : StandsIn p point.expr) (t : Ground) where
    -- the body of a case, for what the tag holds
    case_sound : (name : Option Word) (a : Ground) (bound : Named Ground) (body : Expr) (held : Value) → IsHeld name a bound → IsTyped p i functions (bound ++ locals) effects body t → StandsIn p body
        → Fits p i held a → IsAct p i effects t (in_case point.expr.span name body held point.names)
    case_sound _ a _ body held (under_name {x}) typed here fits = at p i functions effects ((x.text, a) ∷ locals) (bind x.text held point.names) (bound_one p i x.text held a locals point.names fits fit) body t typed here
    case_sound _ _ _ body held bare typed here fits =
        subst (λ b. IsAct p i effects t (after_unit point.expr.span b (Tail (under point.names body)))) (sym (unit_of_fits p i held fits)) (at p i functions effects locals point.names fit body t typed here)

    taken : (cases : List Case) (last : Option LastCase) (v held : Value) (l : Label) (a : Ground) → HasCase t cases l a → Each (λ (case : Case). StandsIn p case.body) cases → tag_in v ≡ Some (l, held) → Fits p i held a
        → IsAct p i effects t (switch point.expr.span v (tag_in v) cases last point.names)
    taken cases last v held l a case here is fits =
        subst (λ o. IsAct p i effects t (switch point.expr.span v o cases last point.names)) (sym is)
        (subst (λ o. IsAct p i effects t (in_cases point.expr.span o last v held point.names)) (sym case.first)
        (case_sound case.case.name a case.bound case.case.body held case.held case.typed (each_in (λ (c : Case). StandsIn p c.body) cases case.case case.among here) fits))

    others : (cases : List Case) (last : LastCase) (v held : Value) (l : Label) (rest : Ground) → case_of l cases ≡ None → IsTyped p i functions ((last.name.text, rest) ∷ locals) effects last.body t → StandsIn p last.body
        → tag_in v ≡ Some (l, held) → Fits p i v rest → IsAct p i effects t (switch point.expr.span v (tag_in v) cases (Some last) point.names)
    others cases last v held l rest unmet typed here is fits =
        subst (λ o. IsAct p i effects t (switch point.expr.span v o cases (Some last) point.names)) (sym is)
        (subst (λ o. IsAct p i effects t (in_cases point.expr.span o (Some last) v held point.names)) (sym unmet)
        (at p i functions effects ((last.name.text, rest) ∷ locals) (bind last.name.text v point.names) (bound_one p i last.name.text v rest locals point.names fits fit) last.body t typed here))

    with_first : (a : Ground) (d : Expr) (cases : List Case) (last : Option LastCase) → layer point.expr ≡ Node-F.Switch d cases last → IsTyped p i functions locals effects d a
        → ((v : Value) → Fits p i v a → IsAct p i effects t (switch point.expr.span v (tag_in v) cases last point.names)) → IsNode p i effects t point
    with_first a d cases last is typed acts =
        points.with_first p i functions effects locals point fit stands t a (Node-F.Switch d cases last) d is refl typed acts

    pub switch_node : (d : Expr) (cases : List Case) (row : Row) (tags : Named Ground) (ts : List Ground) → layer point.expr ≡ Node-F.Switch d cases None → IsTyped p i functions locals effects d (variant_of row)
        → AreCases p i functions locals effects cases ts tags → Each (λ u. u ≡ t) ts → with_fields tags no_fields ≡ Some row → IsNode p i effects t point
    switch_node d cases row tags ts is typed have all made =
        with_first (variant_of row) d cases None is typed (λ v fits.
        let found = tag_found p i tags row v made fits in
        taken cases None v found.held found.label found.ty (case_found t cases ts tags have all found.label found.ty found.there) (cases_stands p point.expr is stands) found.shows found.fit)

    pub switch_open_node : (d : Expr) (cases : List Case) (last : LastCase) (other row : Row) (tags : Named Ground) (ts : List Ground) → layer point.expr ≡ Node-F.Switch d cases (Some last) → IsTyped p i functions locals effects d (variant_of row)
        → AreCases p i functions locals effects cases ts tags → Each (λ u. u ≡ t) ts → IsTyped p i functions ((last.name.text, variant_of other) ∷ locals) effects last.body t → with_fields tags other ≡ Some row → IsNode p i effects t point
    switch_open_node d cases last other row tags ts is typed have all last_typed made = with_first (variant_of row) d cases (Some last) is typed (λ v fits. by_tag v (tag_split p i tags other row v made fits))
      where
        by_tag : (v : Value) → IsCase p i tags v ⊎ IsOther p i tags other v → IsAct p i effects t (switch point.expr.span v (tag_in v) cases (Some last) point.names)
        by_tag v (inl one) = taken cases (Some last) v one.held one.label one.ty (case_found t cases ts tags have all one.label one.ty one.there) (cases_stands p point.expr is stands) one.shows one.fit
        by_tag v (inr rest) = others cases last v rest.held rest.label (variant_of other) (unmet_by cases ts tags have rest.label rest.missing) last_typed (last_stands p point.expr is stands) rest.shows rest.fit
