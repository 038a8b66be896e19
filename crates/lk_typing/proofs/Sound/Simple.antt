-- Where the equations of an operator without labels hold, its rule gives its type.
use Rattle.std.proofs.Common.{◌≡◌, ℕ, true, List, [], ◌∷◌, map, refl, sym, subst, ap, ap₂, ◌∙◌, Some, IsSome}
use Rattle.lk_ast.specs.declared.declaration.TableDecl.{TableDecl}
use Rattle.lk_ast.specs.declared.table.BaseKind.{BaseKind}
use Rattle.lk_types.proofs.Unfold.{under_int, under_bool, under_text}
use Rattle.lk_types.specs.Each.{Each}
use Rattle.lk_types.specs.Grounding.{Grounding, under}
use Rattle.lk_types.specs.Rows.{EffectSet}
use Rattle.lk_types.specs.Solutions.{IsMet}
use Rattle.lk_types.specs.declared.ground.Ground.{Ground}
use Rattle.lk_types.specs.declared.ground.Ground.TheVariants as known
use Rattle.lk_types.specs.declared.ty.Effect.{Effect}
use Rattle.lk_types.specs.declared.ty.Effect.TheVariants as effect
use Rattle.lk_types.specs.declared.ty.Effects.{Effects}
use Rattle.lk_types.specs.declared.ty.Ty.{Ty}
use Rattle.lk_types.specs.declared.ty.Ty.TheVariants as ty
use Rattle.lk_typing.proofs.EffectRows.{has_sound}
use Rattle.lk_typing.proofs.Meaning.{HasEffects}
use Rattle.lk_typing.proofs.Nodes.{there_is as there}
use Rattle.lk_typing.proofs.Operators.{become_same, known_first}
use Rattle.lk_typing.proofs.Values.{under_unit, under_base, list_is, list_was, variable_is, function_is, met_back}
use Rattle.lk_typing.specs.Heads as head
use Rattle.lk_typing.specs.Heads.{Head}
use Rattle.lk_typing.specs.Law.{Become}
use Rattle.lk_typing.specs.Names.{Named, Entry}
use Rattle.lk_typing.specs.Rules.{Rule}
use Rattle.lk_typing.specs.Types.{base, unit, function_of}
use Rattle.lk_typing.specs.Unknowns as unknown
use Rattle.lk_typing.specs.Unknowns.{same, has}

module _ (σ : Grounding) where
  pub one : (a : Ty) (x : Ground) → under σ a ≡ Some x → Become σ (a ∷ []) (x ∷ [])
  one a x ax = ap (λ u. u ∷ []) ax

  pub two : (a b : Ty) (x y : Ground) → under σ a ≡ Some x → under σ b ≡ Some y → Become σ (a ∷ b ∷ []) (x ∷ y ∷ [])
  two a b x y ax by = ap₂ (λ u more. u ∷ more) ax (one b y by)

  pub three : (a b c : Ty) (x y z : Ground) → under σ a ≡ Some x → under σ b ≡ Some y → under σ c ≡ Some z → Become σ (a ∷ b ∷ c ∷ []) (x ∷ y ∷ z ∷ [])
  three a b c x y z ax by cz = ap₂ (λ u more. u ∷ more) ax (two b c y z by cz)

  is_int : (a : Ty) → IsMet σ (same a ty.Int) → under σ a ≡ Some known.Int
  is_int a is = met_back σ a ty.Int known.Int (under_int σ) is

  is_bool : (a : Ty) → IsMet σ (same a ty.Bool) → under σ a ≡ Some known.Bool
  is_bool a is = met_back σ a ty.Bool known.Bool (under_bool σ) is

  is_text : (a : Ty) → IsMet σ (same a ty.Text) → under σ a ≡ Some known.Text
  is_text a is = met_back σ a ty.Text known.Text (under_text σ) is

  pub plain_is : (n : ℕ) → under σ (ty.Var n) ≡ Some (σ.plain n)
  plain_is n = variable_is σ n (σ.plain n) refl

  pub list_of_plain : (n : ℕ) → under σ (ty.List (ty.Var n)) ≡ Some (known.List (σ.plain n))
  list_of_plain n = list_is σ (ty.Var n) (σ.plain n) (plain_is n)

  is_list : (a : Ty) (n : ℕ) → IsMet σ (same a (ty.List (ty.Var n))) → under σ a ≡ Some (known.List (σ.plain n))
  is_list a n is = met_back σ a (ty.List (ty.Var n)) (known.List (σ.plain n)) (list_of_plain n) is

module _ (σ : Grounding) (known_functions : Named (Entry Ground)) (tables : List TableDecl) (known_names : Named Ground) (s : EffectSet) where
  -- the type becomes one that the rule gives
  abbrev pub Gets : Head → List Ground → Ty → Type 0
  Gets h ts t = (g : Ground) × (under σ t ≡ Some g) × Rule known_functions tables known_names s h ts g

  -- by the rule at what the parts are known to become
  pub by_rule : (h : Head) (types : List Ty) (ts us : List Ground) (t : Ty) (g : Ground) → Become σ types ts → Become σ types us → under σ t ≡ Some g
      → Rule known_functions tables known_names s h us g → Gets h ts t
  by_rule h types ts us t g is also answer rule = (g, answer, subst (λ ws. Rule known_functions tables known_names s h ws g) (become_same σ types us ts also is) rule)

  -- ---- without new variables

  pub literal_sound : (kind : BaseKind) (ts : List Ground) → Become σ [] ts → Gets (head.Literal kind) ts (unknown.base kind)
  literal_sound kind ts is = by_rule (head.Literal kind) [] ts [] (unknown.base kind) (base kind) is refl (under_base σ kind) Rule.literal

  pub seq_sound : (a b : Ty) (ts : List Ground) → Become σ (a ∷ b ∷ []) ts → Each (IsMet σ) (same a unknown.unit ∷ []) → IsSome (under σ b) → Gets head.Seq ts b
  seq_sound a b ts is met some =
      let found : (y : Ground) × (under σ b ≡ Some y) = there (under σ b) some in
      by_rule head.Seq (a ∷ b ∷ []) ts (unit ∷ found.0 ∷ []) b found.0 is
      (two σ a b unit found.0 (met_back σ a unknown.unit unit (under_unit σ) met.0) found.1) found.1 Rule.seq

  pub branch_sound : (c d e : Ty) (ts : List Ground) → Become σ (c ∷ d ∷ e ∷ []) ts → Each (IsMet σ) (same c ty.Bool ∷ same d e ∷ []) → Gets head.If ts d
  branch_sound c d e ts is met =
      let g : Ground = met.1.0.0 in
      by_rule head.If (c ∷ d ∷ e ∷ []) ts (known.Bool ∷ g ∷ g ∷ []) d g is
      (three σ c d e known.Bool g g (is_bool σ c met.0) met.1.0.1 met.1.0.2) met.1.0.1 Rule.branch

  pub logic_sound : (a b : Ty) (ts : List Ground) → Become σ (a ∷ b ∷ []) ts → Each (IsMet σ) (same a ty.Bool ∷ same b ty.Bool ∷ []) → Gets head.Logic ts ty.Bool
  logic_sound a b ts is met =
      by_rule head.Logic (a ∷ b ∷ []) ts (known.Bool ∷ known.Bool ∷ []) ty.Bool known.Bool is
      (two σ a b known.Bool known.Bool (is_bool σ a met.0) (is_bool σ b met.1.0)) (under_bool σ) Rule.logic

  pub concat_sound : (a b : Ty) (ts : List Ground) → Become σ (a ∷ b ∷ []) ts → Each (IsMet σ) (same a ty.Text ∷ same b ty.Text ∷ []) → Gets head.Concat ts ty.Text
  concat_sound a b ts is met =
      by_rule head.Concat (a ∷ b ∷ []) ts (known.Text ∷ known.Text ∷ []) ty.Text known.Text is
      (two σ a b known.Text known.Text (is_text σ a met.0) (is_text σ b met.1.0)) (under_text σ) Rule.concat

  pub arithmetic_sound : (a b : Ty) (ts : List Ground) → Become σ (a ∷ b ∷ []) ts → Each (IsMet σ) (same a ty.Int ∷ same b ty.Int ∷ []) → Gets head.Arithmetic ts ty.Int
  arithmetic_sound a b ts is met =
      by_rule head.Arithmetic (a ∷ b ∷ []) ts (known.Int ∷ known.Int ∷ []) ty.Int known.Int is
      (two σ a b known.Int known.Int (is_int σ a met.0) (is_int σ b met.1.0)) (under_int σ) Rule.arithmetic

  pub comparison_sound : (a b : Ty) (ts : List Ground) → Become σ (a ∷ b ∷ []) ts → Each (IsMet σ) (same a b ∷ []) → Gets head.Comparison ts ty.Bool
  comparison_sound a b ts is met =
      let g : Ground = met.0.0 in
      by_rule head.Comparison (a ∷ b ∷ []) ts (g ∷ g ∷ []) ty.Bool known.Bool is (two σ a b g g met.0.1 met.0.2) (under_bool σ) Rule.comparison

  pub negation_sound : (a : Ty) (ts : List Ground) → Become σ (a ∷ []) ts → Each (IsMet σ) (same a ty.Int ∷ []) → Gets head.Negation ts ty.Int
  negation_sound a ts is met = by_rule head.Negation (a ∷ []) ts (known.Int ∷ []) ty.Int known.Int is (one σ a known.Int (is_int σ a met.0)) (under_int σ) Rule.negation

  pub not_sound : (a : Ty) (ts : List Ground) → Become σ (a ∷ []) ts → Each (IsMet σ) (same a ty.Bool ∷ []) → Gets head.Not ts ty.Bool
  not_sound a ts is met = by_rule head.Not (a ∷ []) ts (known.Bool ∷ []) ty.Bool known.Bool is (one σ a known.Bool (is_bool σ a met.0)) (under_bool σ) Rule.not

  -- ---- lists without effects

  pub append_sound : (a b : Ty) (ts : List Ground) (n : ℕ) → Become σ (a ∷ b ∷ []) ts → Each (IsMet σ) (same a (ty.List (ty.Var n)) ∷ same b a ∷ []) → Gets head.Append ts a
  append_sound a b ts n is met =
      let list : Ground = known.List (σ.plain n) in
      let left : under σ a ≡ Some list = is_list σ a n met.0 in
      by_rule head.Append (a ∷ b ∷ []) ts (list ∷ list ∷ []) a list is (two σ a b list list left (met_back σ b a list left met.1.0)) left (Rule.append (σ.plain n))

  pub empty_sound : (a : Ty) (ts : List Ground) (n : ℕ) → Become σ (a ∷ []) ts → Each (IsMet σ) (same a (ty.List (ty.Var n)) ∷ []) → Gets head.Empty ts ty.Bool
  empty_sound a ts n is met =
      let list : Ground = known.List (σ.plain n) in
      by_rule head.Empty (a ∷ []) ts (list ∷ []) ty.Bool known.Bool is (one σ a list (is_list σ a n met.0)) (under_bool σ) (Rule.empty (σ.plain n))

  pub where_sound : (c a : Ty) (ts : List Ground) (n : ℕ) → Become σ (c ∷ a ∷ []) ts → Each (IsMet σ) (same c ty.Bool ∷ same a (ty.List (ty.Var n)) ∷ [])
      → Gets head.Where ts (ty.List (ty.Var n))
  where_sound c a ts n is met =
      let list : Ground = known.List (σ.plain n) in
      by_rule head.Where (c ∷ a ∷ []) ts (known.Bool ∷ list ∷ []) (ty.List (ty.Var n)) list is
      (two σ c a known.Bool list (is_bool σ c met.0) (is_list σ a n met.1.0)) (list_of_plain σ n) (Rule.filter (σ.plain n))

  pub items_none_sound : (ts : List Ground) (n : ℕ) → Become σ [] ts → Gets head.Items ts (ty.List (ty.Var n))
  items_none_sound ts n is =
      by_rule head.Items [] ts [] (ty.List (ty.Var n)) (known.List (σ.plain n)) is refl (list_of_plain σ n) (Rule.items (σ.plain n) tt)

  -- all of them become what the first one does
  pub items_sound : (t : Ty) (types : List Ty) (ts : List Ground) → Become σ (t ∷ types) ts → Each (IsMet σ) (map (λ later. same later t) types) → Gets head.Items ts (ty.List t)
  items_sound t types ts is met =
      known_first σ (λ ts. Gets head.Items ts (ty.List t)) t types ts is
      (λ x xs tx rest. (known.List x, list_is σ t x tx, Rule.items x (refl, all_same x tx types xs rest met)))
    where
      all_same : (x : Ground) → under σ t ≡ Some x → (types : List Ty) (xs : List Ground) → Become σ types xs → Each (IsMet σ) (map (λ later. same later t) types) → Each (λ y. y ≡ x) xs
      all_same x tx [] [] is met = tt
      all_same x tx [] (y ∷ ys) is met = cc
      all_same x tx (u ∷ us) [] is met = cc
      all_same x tx (u ∷ us) (y ∷ ys) is met =
          let first : under σ u ≡ Some y = cc in
          let later : Become σ us ys = cc in
          let also : Some y ≡ Some x = sym first ∙ met_back σ u t x tx met.0 in
          let both : y ≡ x = cc in
          (both, all_same x tx us ys later met.1)

  -- ---- with effects

  module _ (effects : Effects) (are : HasEffects σ effects s) where
    there_is : (e : Effect) (n : ℕ) → IsMet σ (has effects e n) → s e ≡ true
    there_is e n met = has_sound σ effects s e n are met

    pub division_sound : (a b : Ty) (ts : List Ground) (n : ℕ) → Become σ (a ∷ b ∷ []) ts → Each (IsMet σ) (same a ty.Int ∷ same b ty.Int ∷ has effects effect.Trap n ∷ [])
        → Gets head.Division ts ty.Int
    division_sound a b ts n is met =
        by_rule head.Division (a ∷ b ∷ []) ts (known.Int ∷ known.Int ∷ []) ty.Int known.Int is
        (two σ a b known.Int known.Int (is_int σ a met.0) (is_int σ b met.1.0)) (under_int σ) (Rule.division (there_is effect.Trap n met.1.1.0))

    pub cons_sound : (a b : Ty) (ts : List Ground) (n : ℕ) → Become σ (a ∷ b ∷ []) ts → Each (IsMet σ) (same b (ty.List a) ∷ has effects effect.Local n ∷ []) → Gets head.Cons ts b
    cons_sound a b ts n is met =
        let found : (x : Ground) × (under σ a ≡ Some x) × (met.0.0 ≡ known.List x) = list_was σ a met.0.0 met.0.2 in
        let list : under σ b ≡ Some (known.List found.0) = met.0.1 ∙ ap (λ g. Some g) found.2 in
        by_rule head.Cons (a ∷ b ∷ []) ts (found.0 ∷ known.List found.0 ∷ []) b (known.List found.0) is
        (two σ a b found.0 (known.List found.0) found.1 list) list (Rule.cons (there_is effect.Local n met.1.0))

    pub first_sound : (a : Ty) (ts : List Ground) (n i j : ℕ) → Become σ (a ∷ []) ts
        → Each (IsMet σ) (same a (ty.List (ty.Var n)) ∷ has effects effect.Trap i ∷ has effects effect.Local j ∷ []) → Gets head.First ts (ty.Var n)
    first_sound a ts n i j is met =
        by_rule head.First (a ∷ []) ts (known.List (σ.plain n) ∷ []) (ty.Var n) (σ.plain n) is (one σ a (known.List (σ.plain n)) (is_list σ a n met.0)) (plain_is σ n)
        (Rule.first (there_is effect.Trap i met.1.0) (there_is effect.Local j met.1.1.0))

    pub rest_sound : (a : Ty) (ts : List Ground) (n i j : ℕ) → Become σ (a ∷ []) ts
        → Each (IsMet σ) (same a (ty.List (ty.Var n)) ∷ has effects effect.Trap i ∷ has effects effect.Local j ∷ []) → Gets head.Rest ts (ty.List (ty.Var n))
    rest_sound a ts n i j is met =
        by_rule head.Rest (a ∷ []) ts (known.List (σ.plain n) ∷ []) (ty.List (ty.Var n)) (known.List (σ.plain n)) is
        (one σ a (known.List (σ.plain n)) (is_list σ a n met.0)) (list_of_plain σ n)
        (Rule.rest (σ.plain n) (there_is effect.Trap i met.1.0) (there_is effect.Local j met.1.1.0))

    pub int_to_string_sound : (a : Ty) (ts : List Ground) (n : ℕ) → Become σ (a ∷ []) ts → Each (IsMet σ) (same a ty.Int ∷ has effects effect.Local n ∷ []) → Gets head.IntToString ts ty.Text
    int_to_string_sound a ts n is met =
        by_rule head.IntToString (a ∷ []) ts (known.Int ∷ []) ty.Text known.Text is (one σ a known.Int (is_int σ a met.0)) (under_text σ)
        (Rule.int_to_string (there_is effect.Local n met.1.0))

    pub print_sound : (a : Ty) (ts : List Ground) (n : ℕ) → Become σ (a ∷ []) ts → Each (IsMet σ) (same a ty.Text ∷ has effects effect.Print n ∷ []) → Gets head.Print ts unknown.unit
    print_sound a ts n is met =
        by_rule head.Print (a ∷ []) ts (known.Text ∷ []) unknown.unit unit is (one σ a known.Text (is_text σ a met.0)) (under_unit σ)
        (Rule.print (there_is effect.Print n met.1.0))

    -- a function that is applied has the parameters' types, and the effects of where it is applied
    pub apply_sound : (t : Ty) (types : List Ty) (ts : List Ground) (n i : ℕ) → Become σ (t ∷ types) ts
        → Each (IsMet σ) (same t (ty.Fun types effects (ty.Var n)) ∷ has effects effect.Local i ∷ []) → Gets head.Apply ts (ty.Var n)
    apply_sound t types ts n i is met =
        known_first σ (λ ts. Gets head.Apply ts (ty.Var n)) t types ts is
        (λ x xs tx rest.
        let function : under σ t ≡ Some (function_of xs s (σ.plain n)) =
        met_back σ t (ty.Fun types effects (ty.Var n)) (function_of xs s (σ.plain n)) (function_is σ types xs effects s (ty.Var n) (σ.plain n) rest are (plain_is σ n)) met.0 in
        let also : Some x ≡ Some (function_of xs s (σ.plain n)) = sym tx ∙ function in
        let both : x ≡ function_of xs s (σ.plain n) = cc in
        (σ.plain n, plain_is σ n, subst (λ g. Rule known_functions tables known_names s head.Apply (g ∷ xs) (σ.plain n)) (sym both) (Rule.apply (there_is effect.Local i met.1.0))))
