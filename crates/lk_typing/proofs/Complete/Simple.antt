-- Where the rule of an operator without labels gives a type, its equations hold.
use Rattle.std.proofs.Common.{◌≡◌, ℕ, ◌+◌, true, List, [], ◌∷◌, map, refl, subst, ap, ◌∙◌, Some}
use native.Mathlib.Omega.{arith}
use Rattle.lk_ast.specs.declared.table.BaseKind.{BaseKind}
use Rattle.lk_types.proofs.Unfold.{under_int, under_bool, under_text}
use Rattle.lk_types.specs.Each.{Each}
use Rattle.lk_types.specs.Grounding.{Grounding, under}
use Rattle.lk_types.specs.Rows.{EffectSet}
use Rattle.lk_types.specs.Solutions.{IsMet}
use Rattle.lk_types.specs.declared.ground.Ground.{Ground}
use Rattle.lk_types.specs.declared.ground.Ground.TheVariants as known
use Rattle.lk_types.specs.declared.ty.Effect.{Effect}
use Rattle.lk_types.specs.declared.ty.Effect.TheVariants as effect
use Rattle.lk_types.specs.declared.ty.Effects.{Effects}
use Rattle.lk_types.specs.declared.ty.Ty.{Ty}
use Rattle.lk_types.specs.declared.ty.Ty.TheVariants as ty
use Rattle.lk_typing.proofs.EffectRows.{without, has_complete}
use Rattle.lk_typing.proofs.Meaning as letter
use Rattle.lk_typing.proofs.Meaning.{HasEffects, IsLetter, Stand, OwnMet}
use Rattle.lk_typing.proofs.Values.{under_unit, under_base, list_is, variable_is, function_is, meets}
use Rattle.lk_typing.specs.Equations.{own}
use Rattle.lk_typing.specs.Law.{Become}
use Rattle.lk_typing.specs.Types.{base, unit, function_of}
use Rattle.lk_typing.specs.Unknowns as unknown
use Rattle.lk_typing.specs.Unknowns.{same, has}

module _ (σ : Grounding) (n : ℕ) where
  -- ---- without new variables

  pub literal_complete : (kind : BaseKind) → OwnMet σ (own (unknown.base kind) [] n) (0 + n) (base kind)
  literal_complete kind = record { next = omega arith; equations = tt; ty = under_base σ kind }

  pub seq_complete : (a b : Ty) (y : Ground) → under σ a ≡ Some unit → under σ b ≡ Some y → OwnMet σ (own b (same a unknown.unit ∷ []) n) (0 + n) y
  seq_complete a b y ax by = record { next = omega arith; equations = (meets σ a unknown.unit unit ax (under_unit σ), tt); ty = by }

  pub branch_complete : (c d e : Ty) (y : Ground) → under σ c ≡ Some known.Bool → under σ d ≡ Some y → under σ e ≡ Some y
      → OwnMet σ (own d (same c ty.Bool ∷ same d e ∷ []) n) (0 + n) y
  branch_complete c d e y cx dy ey = record { next = omega arith; equations = (meets σ c ty.Bool known.Bool cx (under_bool σ), (meets σ d e y dy ey, tt)); ty = dy }

  pub logic_complete : (a b : Ty) → under σ a ≡ Some known.Bool → under σ b ≡ Some known.Bool → OwnMet σ (own ty.Bool (same a ty.Bool ∷ same b ty.Bool ∷ []) n) (0 + n) known.Bool
  logic_complete a b ax by =
      record { next = omega arith; equations = (meets σ a ty.Bool known.Bool ax (under_bool σ), (meets σ b ty.Bool known.Bool by (under_bool σ), tt)); ty = under_bool σ }

  pub concat_complete : (a b : Ty) → under σ a ≡ Some known.Text → under σ b ≡ Some known.Text → OwnMet σ (own ty.Text (same a ty.Text ∷ same b ty.Text ∷ []) n) (0 + n) known.Text
  concat_complete a b ax by =
      record { next = omega arith; equations = (meets σ a ty.Text known.Text ax (under_text σ), (meets σ b ty.Text known.Text by (under_text σ), tt)); ty = under_text σ }

  pub arithmetic_complete : (a b : Ty) → under σ a ≡ Some known.Int → under σ b ≡ Some known.Int → OwnMet σ (own ty.Int (same a ty.Int ∷ same b ty.Int ∷ []) n) (0 + n) known.Int
  arithmetic_complete a b ax by =
      record { next = omega arith; equations = (meets σ a ty.Int known.Int ax (under_int σ), (meets σ b ty.Int known.Int by (under_int σ), tt)); ty = under_int σ }

  pub comparison_complete : (a b : Ty) (x : Ground) → under σ a ≡ Some x → under σ b ≡ Some x → OwnMet σ (own ty.Bool (same a b ∷ []) n) (0 + n) known.Bool
  comparison_complete a b x ax bx = record { next = omega arith; equations = (meets σ a b x ax bx, tt); ty = under_bool σ }

  pub negation_complete : (a : Ty) → under σ a ≡ Some known.Int → OwnMet σ (own ty.Int (same a ty.Int ∷ []) n) (0 + n) known.Int
  negation_complete a ax = record { next = omega arith; equations = (meets σ a ty.Int known.Int ax (under_int σ), tt); ty = under_int σ }

  pub not_complete : (a : Ty) → under σ a ≡ Some known.Bool → OwnMet σ (own ty.Bool (same a ty.Bool ∷ []) n) (0 + n) known.Bool
  not_complete a ax = record { next = omega arith; equations = (meets σ a ty.Bool known.Bool ax (under_bool σ), tt); ty = under_bool σ }

  -- ---- lists without effects: the new variable stands for the type of the elements

  pub plain_stands : (x : Ground) → σ.plain n ≡ x → under σ (ty.Var n) ≡ Some x
  plain_stands x is = variable_is σ n x is

  list_stands : (x : Ground) → σ.plain n ≡ x → under σ (ty.List (ty.Var n)) ≡ Some (known.List x)
  list_stands x is = list_is σ (ty.Var n) x (plain_stands x is)

  is_list : (a : Ty) (x : Ground) → σ.plain n ≡ x → under σ a ≡ Some (known.List x) → IsMet σ (same a (ty.List (ty.Var n)))
  is_list a x is ax = meets σ a (ty.List (ty.Var n)) (known.List x) ax (list_stands x is)

  pub append_complete : (a b : Ty) (x : Ground) → Stand σ n (letter.plain x ∷ []) → under σ a ≡ Some (known.List x) → under σ b ≡ Some (known.List x)
      → OwnMet σ (own a (same a (ty.List (ty.Var n)) ∷ same b a ∷ []) (1 + n)) (1 + n) (known.List x)
  append_complete a b x stand ax bx = record { next = refl; equations = (is_list a x stand.0.plain ax, (meets σ b a (known.List x) bx ax, tt)); ty = ax }

  pub empty_complete : (a : Ty) (x : Ground) → Stand σ n (letter.plain x ∷ []) → under σ a ≡ Some (known.List x)
      → OwnMet σ (own ty.Bool (same a (ty.List (ty.Var n)) ∷ []) (1 + n)) (1 + n) known.Bool
  empty_complete a x stand ax = record { next = refl; equations = (is_list a x stand.0.plain ax, tt); ty = under_bool σ }

  pub where_complete : (c a : Ty) (x : Ground) → Stand σ n (letter.plain x ∷ []) → under σ c ≡ Some known.Bool → under σ a ≡ Some (known.List x)
      → OwnMet σ (own (ty.List (ty.Var n)) (same c ty.Bool ∷ same a (ty.List (ty.Var n)) ∷ []) (1 + n)) (1 + n) (known.List x)
  where_complete c a x stand cb ax =
      record { next = refl; equations = (meets σ c ty.Bool known.Bool cb (under_bool σ), (is_list a x stand.0.plain ax, tt)); ty = list_stands x stand.0.plain }

  pub items_none_complete : (x : Ground) → Stand σ n (letter.plain x ∷ []) → OwnMet σ (own (ty.List (ty.Var n)) [] (1 + n)) (1 + n) (known.List x)
  items_none_complete x stand = record { next = refl; equations = tt; ty = list_stands x stand.0.plain }

  -- all of them become what the first one does
  pub items_complete : (t : Ty) (types : List Ty) (x : Ground) (ts : List Ground) → under σ t ≡ Some x → Become σ types ts → Each (λ y. y ≡ x) ts
      → OwnMet σ (own (ty.List t) (map (λ later. same later t) types) n) (0 + n) (known.List x)
  items_complete t types x ts tx become each = record { next = omega arith; equations = all_same types ts become each; ty = list_is σ t x tx }
    where
      all_same : (types : List Ty) (ts : List Ground) → Become σ types ts → Each (λ y. y ≡ x) ts → Each (IsMet σ) (map (λ later. same later t) types)
      all_same [] ts become each = tt
      all_same (u ∷ us) [] become each = cc
      all_same (u ∷ us) (y ∷ ys) become each =
          let first : under σ u ≡ Some y = cc in
          let later : Become σ us ys = cc in
          (meets σ u t x (first ∙ ap (λ g. Some g) each.0) tx, all_same us ys later each.1)

  -- ---- with effects: a new variable stands for the other effects

  module _ (effects : Effects) (s : EffectSet) (are : HasEffects σ effects s) where
    pub has_it : (e : Effect) (i : ℕ) → s e ≡ true → IsLetter σ i (letter.effects (without e s)) → IsMet σ (has effects e i)
    has_it e i there is = has_complete σ effects s e i are there is.effects

    pub division_complete : (a b : Ty) → Stand σ n (letter.effects (without effect.Trap s) ∷ []) → s effect.Trap ≡ true → under σ a ≡ Some known.Int → under σ b ≡ Some known.Int
        → OwnMet σ (own ty.Int (same a ty.Int ∷ same b ty.Int ∷ has effects effect.Trap n ∷ []) (1 + n)) (1 + n) known.Int
    division_complete a b stand there ax by = record {
      next = refl;
      equations = (meets σ a ty.Int known.Int ax (under_int σ), (meets σ b ty.Int known.Int by (under_int σ), (has_it effect.Trap n there stand.0, tt)));
      ty = under_int σ;
    }

    pub cons_complete : (a b : Ty) (x : Ground) → Stand σ n (letter.effects (without effect.Local s) ∷ []) → s effect.Local ≡ true → under σ a ≡ Some x → under σ b ≡ Some (known.List x)
        → OwnMet σ (own b (same b (ty.List a) ∷ has effects effect.Local n ∷ []) (1 + n)) (1 + n) (known.List x)
    cons_complete a b x stand there ax by = record {
      next = refl;
      equations = (meets σ b (ty.List a) (known.List x) by (list_is σ a x ax), (has_it effect.Local n there stand.0, tt));
      ty = by;
    }

    -- the number of a third variable
    third : (l : letter.Letter) → IsLetter σ (1 + (1 + n)) l → IsLetter σ (2 + n) l
    third l is = let both : 1 + (1 + n) ≡ 2 + n = omega arith in subst (λ k. IsLetter σ k l) both is

    pub first_complete : (a : Ty) (x : Ground) → Stand σ n (letter.plain x ∷ letter.effects (without effect.Trap s) ∷ letter.effects (without effect.Local s) ∷ [])
        → s effect.Trap ≡ true → s effect.Local ≡ true → under σ a ≡ Some (known.List x)
        → OwnMet σ (own (ty.Var n) (same a (ty.List (ty.Var n)) ∷ has effects effect.Trap (1 + n) ∷ has effects effect.Local (2 + n) ∷ []) (3 + n)) (3 + n) x
    first_complete a x stand trap local ax = record {
      next = refl;
      equations = (is_list a x stand.0.plain ax, (has_it effect.Trap (1 + n) trap stand.1.0, (has_it effect.Local (2 + n) local (third (letter.effects (without effect.Local s)) stand.1.1.0), tt)));
      ty = plain_stands x stand.0.plain;
    }

    pub rest_complete : (a : Ty) (x : Ground) → Stand σ n (letter.plain x ∷ letter.effects (without effect.Trap s) ∷ letter.effects (without effect.Local s) ∷ [])
        → s effect.Trap ≡ true → s effect.Local ≡ true → under σ a ≡ Some (known.List x)
        → OwnMet σ (own (ty.List (ty.Var n)) (same a (ty.List (ty.Var n)) ∷ has effects effect.Trap (1 + n) ∷ has effects effect.Local (2 + n) ∷ []) (3 + n)) (3 + n) (known.List x)
    rest_complete a x stand trap local ax = record {
      next = refl;
      equations = (is_list a x stand.0.plain ax, (has_it effect.Trap (1 + n) trap stand.1.0, (has_it effect.Local (2 + n) local (third (letter.effects (without effect.Local s)) stand.1.1.0), tt)));
      ty = list_stands x stand.0.plain;
    }

    pub int_to_string_complete : (a : Ty) → Stand σ n (letter.effects (without effect.Local s) ∷ []) → s effect.Local ≡ true → under σ a ≡ Some known.Int
        → OwnMet σ (own ty.Text (same a ty.Int ∷ has effects effect.Local n ∷ []) (1 + n)) (1 + n) known.Text
    int_to_string_complete a stand there ax =
        record { next = refl; equations = (meets σ a ty.Int known.Int ax (under_int σ), (has_it effect.Local n there stand.0, tt)); ty = under_text σ }

    pub print_complete : (a : Ty) → Stand σ n (letter.effects (without effect.Print s) ∷ []) → s effect.Print ≡ true → under σ a ≡ Some known.Text
        → OwnMet σ (own unknown.unit (same a ty.Text ∷ has effects effect.Print n ∷ []) (1 + n)) (1 + n) unit
    print_complete a stand there ax =
        record { next = refl; equations = (meets σ a ty.Text known.Text ax (under_text σ), (has_it effect.Print n there stand.0, tt)); ty = under_unit σ }

    -- the first variable stands for the answer's type
    pub apply_complete : (t : Ty) (types : List Ty) (ts : List Ground) (x : Ground) → Stand σ n (letter.plain x ∷ letter.effects (without effect.Local s) ∷ []) → s effect.Local ≡ true
        → under σ t ≡ Some (function_of ts s x) → Become σ types ts
        → OwnMet σ (own (ty.Var n) (same t (ty.Fun types effects (ty.Var n)) ∷ has effects effect.Local (1 + n) ∷ []) (2 + n)) (2 + n) x
    apply_complete t types ts x stand there is become =
        let answer : under σ (ty.Var n) ≡ Some x = plain_stands x stand.0.plain in
        record {
          next = refl;
          equations = (meets σ t (ty.Fun types effects (ty.Var n)) (function_of ts s x) is (function_is σ types ts effects s (ty.Var n) x become are answer), (has_it effect.Local (1 + n) there stand.1.0, tt));
          ty = answer;
        }
