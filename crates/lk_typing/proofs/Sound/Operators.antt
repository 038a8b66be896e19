-- Where the equations of an operator hold, its rule gives its type: all operators.
use Rattle.std.proofs.Common.{◌≡◌, ℕ, ◌+◌, List, [], ◌∷◌, Some, IsSome}
use Rattle.lk_ast.specs.declared.declaration.TableDecl.{TableDecl}
use Rattle.lk_types.specs.Each.{Each}
use Rattle.lk_types.specs.Grounding.{Grounding, under}
use Rattle.lk_types.specs.Rows.{EffectSet}
use Rattle.lk_types.specs.Solutions.{IsMet}
use Rattle.lk_types.specs.declared.ground.Ground.{Ground}
use Rattle.lk_types.specs.declared.ty.Effects.{Effects}
use Rattle.lk_types.specs.declared.ty.Ty.{Ty}
use Rattle.lk_typing.proofs.Instances.{never_met}
use Rattle.lk_typing.proofs.Sound.Labels.{record_sound, extend_sound, project_sound, tag_sound, table_sound, insert_sound, name_sound, function_sound, call_sound}
use Rattle.lk_typing.proofs.Meaning.{HasEffects, Functions, Names}
use Rattle.lk_typing.proofs.Sound.Simple.{literal_sound, seq_sound, branch_sound, logic_sound, concat_sound, arithmetic_sound, comparison_sound, negation_sound, not_sound, append_sound, empty_sound, where_sound, items_none_sound, items_sound, division_sound, cons_sound, first_sound, rest_sound, int_to_string_sound, print_sound, apply_sound}
use Rattle.lk_typing.specs.Equations.{equations_of}
use Rattle.lk_typing.specs.Heads as head
use Rattle.lk_typing.specs.Heads.{Head}
use Rattle.lk_typing.specs.Law.{Become}
use Rattle.lk_typing.specs.Names.{Named, Entry}
use Rattle.lk_typing.specs.Rules.{Rule}

module _ (σ : Grounding) (functions : Named (Entry Ty)) (known_functions : Named (Entry Ground)) (tables : List TableDecl) (names : Named Ty) (known_names : Named Ground) (effects : Effects) (s : EffectSet)
    (are_functions : Functions σ functions known_functions) (are_names : Names σ names known_names) (are_effects : HasEffects σ effects s) where
  -- an operator at another number of parts says what can't be met
  by_head : (h : Head) (types : List Ty) (ts : List Ground) (n : ℕ) → Become σ types ts → Each (IsMet σ) (equations_of functions tables names effects h types n).equations
      → IsSome (under σ (equations_of functions tables names effects h types n).ty)
      → (t : Ground) × (under σ (equations_of functions tables names effects h types n).ty ≡ Some t) × Rule known_functions tables known_names s h ts t
  by_head (head.Literal kind) [] ts n is met some = literal_sound σ known_functions tables known_names s kind ts is
  by_head (head.Local x) [] ts n is met some = name_sound σ known_functions tables known_names s names x ts n are_names is met
  by_head (head.Function g) [] ts n is met some = function_sound σ known_functions tables known_names s functions are_functions g ts n is met some
  by_head (head.Call g) types ts n is met some = call_sound σ known_functions tables known_names s functions are_functions effects g types ts n are_effects is met
  by_head head.Apply (t ∷ types) ts n is met some = apply_sound σ known_functions tables known_names s effects are_effects t types ts n (1 + n) is met
  by_head head.Seq (a ∷ b ∷ []) ts n is met some = seq_sound σ known_functions tables known_names s a b ts is met some
  by_head head.If (c ∷ d ∷ e ∷ []) ts n is met some = branch_sound σ known_functions tables known_names s c d e ts is met
  by_head head.Logic (a ∷ b ∷ []) ts n is met some = logic_sound σ known_functions tables known_names s a b ts is met
  by_head head.Concat (a ∷ b ∷ []) ts n is met some = concat_sound σ known_functions tables known_names s a b ts is met
  by_head head.Append (a ∷ b ∷ []) ts n is met some = append_sound σ known_functions tables known_names s a b ts n is met
  by_head head.Cons (a ∷ b ∷ []) ts n is met some = cons_sound σ known_functions tables known_names s effects are_effects a b ts n is met
  by_head head.Arithmetic (a ∷ b ∷ []) ts n is met some = arithmetic_sound σ known_functions tables known_names s a b ts is met
  by_head head.Division (a ∷ b ∷ []) ts n is met some = division_sound σ known_functions tables known_names s effects are_effects a b ts n is met
  by_head head.Comparison (a ∷ b ∷ []) ts n is met some = comparison_sound σ known_functions tables known_names s a b ts is met
  by_head head.Negation (a ∷ []) ts n is met some = negation_sound σ known_functions tables known_names s a ts is met
  by_head head.Not (a ∷ []) ts n is met some = not_sound σ known_functions tables known_names s a ts is met
  by_head head.First (a ∷ []) ts n is met some = first_sound σ known_functions tables known_names s effects are_effects a ts n (1 + n) (2 + n) is met
  by_head head.Rest (a ∷ []) ts n is met some = rest_sound σ known_functions tables known_names s effects are_effects a ts n (1 + n) (2 + n) is met
  by_head head.Empty (a ∷ []) ts n is met some = empty_sound σ known_functions tables known_names s a ts n is met
  by_head head.IntToString (a ∷ []) ts n is met some = int_to_string_sound σ known_functions tables known_names s effects are_effects a ts n is met
  by_head head.Print (a ∷ []) ts n is met some = print_sound σ known_functions tables known_names s effects are_effects a ts n is met
  by_head (head.Record labels) types ts n is met some = record_sound σ known_functions tables known_names s labels types ts n is met some
  by_head (head.Extend labels) types ts n is met some = extend_sound σ known_functions tables known_names s labels types ts n is met
  by_head head.Items [] ts n is met some = items_none_sound σ known_functions tables known_names s ts n is
  by_head head.Items (t ∷ types) ts n is met some = items_sound σ known_functions tables known_names s t types ts is met
  by_head (head.Project l) (a ∷ []) ts n is met some = project_sound σ known_functions tables known_names s l a ts n (1 + n) is met
  by_head (head.Tag l) (a ∷ []) ts n is met some = tag_sound σ known_functions tables known_names s l a ts n is some
  by_head (head.Table x) [] ts n is met some = table_sound σ known_functions tables known_names s effects are_effects x ts n is met some
  by_head head.Where (c ∷ a ∷ []) ts n is met some = where_sound σ known_functions tables known_names s c a ts n is met
  by_head (head.Insert x) (a ∷ []) ts n is met some = insert_sound σ known_functions tables known_names s effects are_effects x a ts n is met
  by_head h types ts n is met some = absurd (never_met σ met.0)

-- where the equations of an operator hold, its type becomes one that its rule gives
pub operator_sound : (σ : Grounding) (functions : Named (Entry Ty)) (known_functions : Named (Entry Ground)) (tables : List TableDecl) (names : Named Ty) (known_names : Named Ground) (effects : Effects)
    (s : EffectSet) (h : Head) (types : List Ty) (ts : List Ground) (n : ℕ)
    → Functions σ functions known_functions → Names σ names known_names → HasEffects σ effects s → Become σ types ts
    → Each (IsMet σ) (equations_of functions tables names effects h types n).equations → IsSome (under σ (equations_of functions tables names effects h types n).ty)
    → (t : Ground) × (under σ (equations_of functions tables names effects h types n).ty ≡ Some t) × Rule known_functions tables known_names s h ts t
operator_sound σ functions known_functions tables names known_names effects s h types ts n are_functions are_names are_effects =
    by_head σ functions known_functions tables names known_names effects s are_functions are_names are_effects h types ts n
