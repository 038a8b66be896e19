-- Ground types that are the same have the same parts.
use Rattle.std.proofs.Common.{◌≡◌, List, [], ◌∷◌, map, refl, sym, ap, ◌∙◌}
use Rattle.std.specs.FinMap as fin
use Rattle.std.specs.List.{list_any}
use Rattle.lk_types.specs.Rows.{EffectSet, Label, Row, effects_of, fields_of, same_effect}
use Rattle.lk_types.specs.declared.ground.Ground.{Ground, out-Ground}
use Rattle.lk_types.specs.declared.ground.Ground.TheOpen.{Ground-F}
use Rattle.lk_types.specs.declared.ground.Ground.TheVariants as known
use Rattle.lk_types.specs.declared.ground.GroundField.{GroundField}
use Rattle.lk_types.specs.declared.ty.Effect.{Effect}
use Rattle.lk_typing.proofs.EffectRows.{in_list}

abbrev element_in : Ground → Ground-F Ground GroundField → Ground
element_in d (Ground-F.List t) = t
element_in d other = d

abbrev fields_in : Ground-F Ground GroundField → List GroundField
fields_in (Ground-F.Fields fs) = fs
fields_in other = []

abbrev tags_in : Ground-F Ground GroundField → List GroundField
tags_in (Ground-F.Tags fs) = fs
tags_in other = []

abbrev params_in : Ground-F Ground GroundField → List Ground
params_in (Ground-F.Fun params es answer) = params
params_in other = []

abbrev effects_in : Ground-F Ground GroundField → List Effect
effects_in (Ground-F.Fun params es answer) = es
effects_in other = []

abbrev answer_in : Ground → Ground-F Ground GroundField → Ground
answer_in d (Ground-F.Fun params es answer) = answer
answer_in d other = d

fields_back : (es : List (Label × Ground)) → map (λ (f : GroundField). (f.label, f.ty)) (map (λ (e : Label × Ground). record { label = e.0; ty = e.1 }) es) ≡ es
fields_back [] = refl
fields_back (e ∷ es) = ap (λ rest. e ∷ rest) (fields_back es)

-- a row can be seen from its fields
pub same_row : (m n : Row) → fields_of m ≡ fields_of n → m ≡ n
same_row m n is = fin.same_entries_map m n (sym (fields_back (fin.entries m)) ∙ ap (map (λ (f : GroundField). (f.label, f.ty))) is ∙ fields_back (fin.entries n))

pub same_fields : (m n : Row) → known.Fields (fields_of m) ≡ known.Fields (fields_of n) → m ≡ n
same_fields m n is = same_row m n (sym (ap fields_in (known.outs-Fields (fields_of m))) ∙ ap (λ t. fields_in (out-Ground t)) is ∙ ap fields_in (known.outs-Fields (fields_of n)))

pub same_tags : (m n : Row) → known.Tags (fields_of m) ≡ known.Tags (fields_of n) → m ≡ n
same_tags m n is = same_row m n (sym (ap tags_in (known.outs-Tags (fields_of m))) ∙ ap (λ t. tags_in (out-Ground t)) is ∙ ap tags_in (known.outs-Tags (fields_of n)))

module _ (ps qs : List Ground) (r s : EffectSet) (a b : Ground) (is : known.Fun ps (effects_of r) a ≡ known.Fun qs (effects_of s) b) where
  part : {A : Type 0} (f : Ground-F Ground GroundField → A) → f (Ground-F.Fun ps (effects_of r) a) ≡ f (Ground-F.Fun qs (effects_of s) b)
  part f = sym (ap f (known.outs-Fun ps (effects_of r) a)) ∙ ap (λ t. f (out-Ground t)) is ∙ ap f (known.outs-Fun qs (effects_of s) b)

  pub same_params : ps ≡ qs
  same_params = part params_in

  pub same_answer : a ≡ b
  same_answer = part (answer_in a)

  -- a set of effects can be seen from its list
  pub same_set : (e : Effect) → r e ≡ s e
  same_set e = sym (in_list r e) ∙ ap (list_any (same_effect e)) (part effects_in) ∙ in_list s e
