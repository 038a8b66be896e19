-- What lists and loops give stands for what they come to.
use Rattle.std.proofs.Common.{◌≡◌, refl, sym, ap, ap₂, subst, ◌∙◌, Bool, true, List, [], ◌∷◌, ◌++◌, map, flat_map, unwrap_or}
use Rattle.std.proofs.lemmas.List.{map-append}
use Rattle.lk_ast.specs.Rows.{row_value, rows_value}
use Rattle.lk_ast.specs.declared.declaration.Program.{Program}
use Rattle.lk_ast.specs.declared.expression.Expr.{Expr}
use Rattle.lk_ast.specs.declared.expression.Node.TheOpen.{Node-F}
use Rattle.lk_ast.specs.declared.table.Base.TheVariants as base
use Rattle.lk_ast.specs.declared.table.Row.{Row}
use Rattle.lk_ast.specs.declared.value.Value.TheVariants as value
use Rattle.lk_ast.specs.declared.value.Value.{Value}
use Rattle.lk_bag.specs.Bag.{items, value_of}
use Rattle.lk_ground_types.specs.Shapes.{are_rows, is_flat_row}
use Rattle.lk_inline.proofs.OperatorValues.{both_are}
use Rattle.lk_inline.proofs.Standing.{base_stands, bool_is, list_is, list_shown, rows_stand, same_list}
use Rattle.lk_inline.specs.Stands.{IsRecord, Stands}
use Rattle.lk_operators.specs.Lists.{empty}
use Rattle.lk_operators.specs.Operators.{operated}
use Rattle.lk_operators.specs.Values as held
use Rattle.lk_operators.specs.Values.{list_in}
use Rattle.lk_operators.specs.declared.outcome.Outcome.TheVariants as outcome
use Rattle.lk_query.specs.Given.{Given, is_empty, of_base, of_list}
use Rattle.lk_sound.proofs.Shapes.{fits_list}
use Rattle.lk_sound.specs.Instances.{Instances}
use Rattle.lk_sound.specs.Values.{AllFit, Fits, more}
use Rattle.lk_types.specs.Each.{Each}
use Rattle.lk_types.specs.declared.ground.Ground.TheVariants as known
use Rattle.lk_types.specs.declared.ground.Ground.{Ground}

-- ---- lists

records_both : (rs ss : List Row) → Each IsRecord rs → Each IsRecord ss → Each IsRecord (rs ++ ss)
records_both [] ss all also = also
records_both (r ∷ rs) ss all also = (all.0, records_both rs ss all.1 also)

pub append_stands : (x y : Expr) (a : Ground) → are_rows (known.List a) ≡ true → (v w : Value) (g h : Given) → Stands (known.List a) v g → Stands (known.List a) w h
    → Stands (known.List a) (value_of (operated (Node-F.Append x y) (v ∷ w ∷ []))) (of_list (g.list ++ h.list))
append_stands x y a are v w g h first second =
    rows_stand (known.List a) _ (g.list ++ h.list) are
    (ap value_of (both_are list_in (λ vs ws. outcome.Value (held.list (vs ++ ws))) v w (map row_value g.list) (map row_value h.list) (ap list_in (first.rows are) ∙ list_shown _) (ap list_in (second.rows are) ∙ list_shown _))
    ∙ ap value.List (sym (map-append row_value g.list h.list)))
    (records_both g.list h.list (first.records_of are) (second.records_of are))

-- things that are given stand for values one by one
abbrev pub AllStand : Ground → List Value → List Given → Type 0
AllStand a [] [] = Unit {0}
AllStand a (v ∷ vs) (g ∷ gs) = Stands a v g × AllStand a vs gs
AllStand a vs gs = ⊥

rows_are : (a : Ground) → is_flat_row a ≡ true → (vs : List Value) (gs : List Given) → AllStand a vs gs → vs ≡ map row_value (map (λ (g : Given). g.row) gs)
rows_are a flat [] [] all = refl
rows_are a flat [] (g ∷ gs) all = absurd all
rows_are a flat (v ∷ vs) [] all = absurd all
rows_are a flat (v ∷ vs) (g ∷ gs) all = ap₂ (λ v vs. v ∷ vs) (all.0.row flat) (rows_are a flat vs gs all.1)

records_are : (a : Ground) → is_flat_row a ≡ true → (vs : List Value) (gs : List Given) → AllStand a vs gs → Each IsRecord (map (λ (g : Given). g.row) gs)
records_are a flat [] [] all = tt
records_are a flat [] (g ∷ gs) all = absurd all
records_are a flat (v ∷ vs) [] all = absurd all
records_are a flat (v ∷ vs) (g ∷ gs) all = (all.0.record_of flat, records_are a flat vs gs all.1)

pub items_stand : (es : List Expr) (a : Ground) → is_flat_row a ≡ true → (vs : List Value) (gs : List Given) → AllStand a vs gs
    → Stands (known.List a) (value_of (operated (Node-F.List es) vs)) (of_list (map (λ (g : Given). g.row) gs))
items_stand es a flat vs gs all =
    rows_stand (known.List a) _ (map (λ (g : Given). g.row) gs) (list_is a ∙ flat) (ap value.List (rows_are a flat vs gs all)) (records_are a flat vs gs all)

empty_shown : (rs : List Row) → empty (rows_value rs) ≡ outcome.Value (held.truth (is_empty rs))
empty_shown [] = simp (value.outs-List)
empty_shown (r ∷ rs) = simp (value.outs-List)

pub empty_stands : (e : Expr) (a : Ground) → are_rows (known.List a) ≡ true → (v : Value) (g : Given) → Stands (known.List a) v g
    → Stands known.Bool (value_of (operated (Node-F.Empty e) (v ∷ []))) (of_base (base.Bool (is_empty g.list)))
empty_stands e a are v g stands =
    base_stands known.Bool _ (base.Bool (is_empty g.list)) bool_is (ap (λ v. value_of (empty v)) (stands.rows are) ∙ ap value_of (empty_shown g.list))

-- ---- loops

pub items_shown : (vs : List Value) → items (value.List vs) ≡ vs
items_shown vs = ap (λ o. unwrap_or o []) (list_shown vs)

module _ (p : Program) (i : Instances) (b : Ground) (are : are_rows (known.List b) ≡ true) (f : Value → Value) (h : Row → Given) where
  abbrev EachStands : Ground → Type 0
  EachStands a = (r : Row) → IsRecord r → Fits p i (row_value r) a → Stands (known.List b) (f (row_value r)) (h r)

  loop_rows : (a : Ground) → EachStands a → (rs : List Row) → Each IsRecord rs → AllFit p i (map row_value rs) a
      → flat_map (λ w. items (f w)) (map row_value rs) ≡ map row_value (flat_map (λ r. (h r).list) rs)
  loop_rows a each [] all fit = refl
  loop_rows a each (r ∷ rs) all (more fits fit) =
      ap₂ (λ vs ws. vs ++ ws) (ap items ((each r all.0 fits).rows are) ∙ items_shown _) (loop_rows a each rs all.1 fit)
      ∙ sym (map-append row_value (h r).list (flat_map (λ r. (h r).list) rs))

  loop_records : (a : Ground) → EachStands a → (rs : List Row) → Each IsRecord rs → AllFit p i (map row_value rs) a → Each IsRecord (flat_map (λ r. (h r).list) rs)
  loop_records a each [] all fit = tt
  loop_records a each (r ∷ rs) all (more fits fit) = records_both (h r).list (flat_map (λ r. (h r).list) rs) ((each r all.0 fits).records_of are) (loop_records a each rs all.1 fit)

  -- what the body gives for each row stands for what it comes to with its record
  pub loop_stands : (a : Ground) → are_rows (known.List a) ≡ true → (v : Value) (g : Given) → Fits p i v (known.List a) → Stands (known.List a) v g
      → ((r : Row) → IsRecord r → Fits p i (row_value r) a → Stands (known.List b) (f (row_value r)) (h r))
      → Stands (known.List b) (value.List (flat_map (λ w. items (f w)) (items v))) (of_list (flat_map (λ r. (h r).list) g.list))
  loop_stands a rows v g fits stands each =
      let found : (values : List Value) × (v ≡ value.List values) × AllFit p i values a = fits_list p i v a fits in
      let same : found.0 ≡ map row_value g.list = same_list found.0 (map row_value g.list) (sym found.1 ∙ stands.rows rows) in
      let fit : AllFit p i (map row_value g.list) a = subst (λ vs. AllFit p i vs a) same found.2 in
      let all : Each IsRecord g.list = stands.records_of rows in
      rows_stand (known.List b) _ (flat_map (λ r. (h r).list) g.list) are
      (ap value.List (ap (flat_map (λ w. items (f w))) (ap items (stands.rows rows) ∙ items_shown (map row_value g.list)) ∙ loop_rows a each g.list all fit))
      (loop_records a each g.list all fit)
