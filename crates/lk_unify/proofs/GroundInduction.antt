-- Induction over ground types: what holds of a ground type where it holds of its parts holds of every one.
use Rattle.std.proofs.Common.{List, [], ◌∷◌, map, sym, subst}
use Rattle.lk_types.specs.Each.{Each}
use Rattle.lk_types.specs.declared.ground.Ground.{Ground, roll-Ground}
use Rattle.lk_types.specs.declared.ground.Ground.TheFolds.{ind-Ground, map-Ground}
use Rattle.lk_types.specs.declared.ground.Ground.TheOpen.{Ground-F, GroundField-F}
use Rattle.lk_types.specs.declared.ground.Ground.TheVariants as known
use Rattle.lk_types.specs.declared.ground.GroundField.{GroundField, roll-GroundField}
use Rattle.lk_types.specs.declared.ty.Effect.{Effect}

pub record GroundSteps (P : Ground → Type 0) : Type 0 where
  pub at_int : P known.Int
  pub at_bool : P known.Bool
  pub at_text : P known.Text
  pub at_list : (t : Ground) → P t → P (known.List t)
  pub at_fields : (fs : List GroundField) → Each (λ f. P f.ty) fs → P (known.Fields fs)
  pub at_tags : (fs : List GroundField) → Each (λ f. P f.ty) fs → P (known.Tags fs)
  pub at_function : (params : List Ground) (es : List Effect) (answer : Ground) → Each P params → P answer → P (known.Fun params es answer)

module _ (P : Ground → Type 0) (steps : GroundSteps P) where
  abbrev OfField : GroundField → Type 0
  OfField f = P f.ty

  abbrev Such : Type 0
  Such = (t : Ground) × P t

  abbrev SuchField : Type 0
  SuchField = (f : GroundField) × OfField f

  each_such : (ts : List Such) → Each P (map (λ t. t.0) ts)
  each_such [] = tt
  each_such (t ∷ ts) = (t.1, each_such ts)

  each_field : (fs : List SuchField) → Each (λ f. P f.ty) (map (λ f. f.0) fs)
  each_field [] = tt
  each_field (f ∷ fs) = (f.1, each_field fs)

  abbrev plain_level : Ground-F Such SuchField → Ground-F Ground GroundField
  plain_level = map-Ground Such SuchField Ground GroundField (λ t. t.0) (λ f. f.0)

  at_level : (y : Ground-F Such SuchField) → P (roll-Ground (plain_level y))
  at_level Ground-F.Int = subst P (sym known.rolls-Int) steps.at_int
  at_level Ground-F.Bool = subst P (sym known.rolls-Bool) steps.at_bool
  at_level Ground-F.Text = subst P (sym known.rolls-Text) steps.at_text
  at_level (Ground-F.List t) = subst P (sym (known.rolls-List t.0)) (steps.at_list t.0 t.1)
  at_level (Ground-F.Fields fs) = subst P (sym (known.rolls-Fields (map (λ f. f.0) fs))) (steps.at_fields (map (λ f. f.0) fs) (each_field fs))
  at_level (Ground-F.Tags fs) = subst P (sym (known.rolls-Tags (map (λ f. f.0) fs))) (steps.at_tags (map (λ f. f.0) fs) (each_field fs))
  at_level (Ground-F.Fun ps es t) = subst P (sym (known.rolls-Fun (map (λ p. p.0) ps) es t.0)) (steps.at_function (map (λ p. p.0) ps) es t.0 (each_such ps) t.1)

  at_field_level : (y : GroundField-F Such SuchField) → OfField (roll-GroundField (record { label = y.label; ty = y.ty.0 }))
  at_field_level y = y.ty.1

  pub every_ground : (t : Ground) → P t
  every_ground = ind-Ground P OfField
      (λ x y is. subst (λ z. P (roll-Ground z)) is (at_level y))
      (λ x y is. subst (λ z. OfField (roll-GroundField z)) is (at_field_level y))
