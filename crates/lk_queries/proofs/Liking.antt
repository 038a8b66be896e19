-- Values that are the same but for the order of a list, by their types; and types of which no value is a list.
use Rattle.std.proofs.Common.{◌≡◌, refl, sym, ap, ap₂, ◌∙◌, subst, Bool, true, false, not, ◌||◌, List, [], ◌∷◌, flat_map, None, IsPermutation}
use Rattle.std.proofs.lemmas.List.Sorted.{IsPermutation-refl, IsPermutation-sym, IsPermutation-trans, IsPermutation-append}
use Rattle.std.proofs.lemmas.Option.{none-some}
use Rattle.lk_ast.specs.declared.declaration.Program.{Program}
use Rattle.lk_ast.specs.declared.table.BaseKind.{BaseKind}
use Rattle.lk_ast.specs.declared.table.BaseKind.TheVariants as kind
use Rattle.lk_ast.specs.declared.value.Value.{Value}
use Rattle.lk_ast.specs.declared.value.Value.TheVariants as value
use Rattle.lk_bag.specs.Bag.{items}
use Rattle.lk_evaluation.specs.Laws.{Both}
use Rattle.lk_ground_types.specs.Shapes.{base_level, row_level, list_level, is_base, is_flat_row, is_flat, is_list, is_query_type}
use Rattle.lk_operators.specs.Values.{int_in, bool_in, text_in, list_in, fields_in}
use Rattle.lk_sound.proofs.FlatTypes.{base_is, flat_row_is}
use Rattle.lk_sound.proofs.Shapes.{int_of_fits, bool_of_fits, text_of_fits, fits_list, fits_fields, fields_shown, list_fits}
use Rattle.lk_sound.proofs.TableRows.{all_fit_permuted}
use Rattle.lk_sound.specs.Instances.{Instances}
use Rattle.lk_sound.specs.Values.{Fits, AllFit, FitEach, none_left, one_more}
use Rattle.lk_sound.specs.Values as fitting
use Rattle.lk_types.proofs.Parts.{same_some}
use Rattle.lk_types.specs.Each.{Each}
use Rattle.lk_types.specs.declared.ground.Ground.{Ground, out-Ground, roll-Ground, roll-out-Ground}
use Rattle.lk_types.specs.declared.ground.Ground.TheOpen.{Ground-F}
use Rattle.lk_types.specs.declared.ground.Ground.TheVariants as known
use Rattle.lk_types.specs.declared.ground.GroundField.{GroundField}
use Rattle.lk_typing.specs.Types.{base}
use Rattle.lk_queries.specs.Order.{IsLike, same, shuffled}
use Rattle.lk_inline.proofs.Loops.{items_shown}
use Rattle.lk_inline.proofs.Standing.{list_shown}
use Rattle.lk_queries.proofs.QueryTypes.{query_level}
use Rattle.lk_sound.proofs.Shuffles.{flat_shuffled}

pub like_itself : (v : Value) → IsLike v v
like_itself v = same refl

pub like_lists : (vs ws : List Value) → IsPermutation vs ws → IsLike (value.List vs) (value.List ws)
like_lists vs ws shuffle = shuffled vs ws refl refl shuffle

pub like_then : (v w u : Value) → IsLike v w → IsLike w u → IsLike v u
like_then v w u (same is) second = subst (λ x. IsLike x u) (sym is) second
like_then v w u (shuffled vs ws v_is w_is one) (same is) = shuffled vs ws v_is (sym is ∙ w_is) one
like_then v w u (shuffled vs ws v_is w_is one) (shuffled xs us x_is u_is two) =
    let equal : xs ≡ ws = same_some (sym (list_shown xs) ∙ ap list_in (sym x_is ∙ w_is) ∙ list_shown ws) in
    shuffled vs us v_is u_is (IsPermutation-trans vs ws us one (subst (λ l. IsPermutation l us) equal two))

pub like_turned : (v w : Value) → IsLike v w → IsLike w v
like_turned v w (same is) = same (sym is)
like_turned v w (shuffled vs ws v_is w_is one) = shuffled ws vs w_is v_is (IsPermutation-sym vs ws one)

-- their elements
pub like_items : (v w : Value) → IsLike v w → IsPermutation (items v) (items w)
like_items v w (same is) = subst (λ x. IsPermutation (items v) (items x)) is (IsPermutation-refl (items v))
like_items v w (shuffled vs ws v_is w_is one) =
    subst (λ x. IsPermutation (items x) (items w)) (sym v_is)
    (subst (λ x. IsPermutation (items (value.List vs)) (items x)) (sym w_is)
    (subst (λ x. IsPermutation x (items (value.List ws))) (sym (items_shown vs)) (subst (λ x. IsPermutation vs x) (sym (items_shown ws)) one)))

-- ---- types of which no value is a list

level_flat : (x : Ground-F Ground GroundField) → query_level x ≡ true → not (list_level x) ≡ true → (base_level x || row_level x) ≡ true
level_flat (Ground-F.List a) is other = absurd cc
level_flat (Ground-F.Fields gs) is other = or_false (row_level (Ground-F.Fields gs)) is
  where
    or_false : (b : Bool) → (b || false) ≡ true → b ≡ true
    or_false true is = refl
    or_false false is = is
level_flat Ground-F.Int is other = refl
level_flat Ground-F.Bool is other = refl
level_flat Ground-F.Text is other = refl
level_flat (Ground-F.Tags gs) is other = is
level_flat (Ground-F.Fun ts es a) is other = is

-- what may stand in a query and is no list is flat
pub query_flat : (t : Ground) → is_query_type t ≡ true → not (is_list t) ≡ true → is_flat t ≡ true
query_flat t is other = level_flat (out-Ground t) is other

pub base_flat : (t : Ground) → is_base t ≡ true → is_flat t ≡ true
base_flat t is = ap (λ b. b || is_flat_row t) is

pub int_flat : is_flat known.Int ≡ true
int_flat = base_flat known.Int (ap base_level known.outs-Int)

pub bool_flat : is_flat known.Bool ≡ true
bool_flat = base_flat known.Bool (ap base_level known.outs-Bool)

pub text_flat : is_flat known.Text ≡ true
text_flat = base_flat known.Text (ap base_level known.outs-Text)

level_rows : (x : Ground-F Ground GroundField) → (base_level x || row_level x) ≡ false → query_level x ≡ true → (a : Ground) × (x ≡ Ground-F.List a)
level_rows (Ground-F.List a) flat is = (a, refl)
level_rows (Ground-F.Fields gs) flat is = let wrong : false ≡ true = sym (ap (λ b. b || false) flat) ∙ is in absurd cc
level_rows Ground-F.Int flat is = absurd cc
level_rows Ground-F.Bool flat is = absurd cc
level_rows Ground-F.Text flat is = absurd cc
level_rows (Ground-F.Tags gs) flat is = absurd cc
level_rows (Ground-F.Fun ts es a) flat is = absurd cc

rows_are : (t : Ground) → is_flat t ≡ false → is_query_type t ≡ true → (a : Ground) × (t ≡ known.List a)
rows_are t flat is = let found = level_rows (out-Ground t) flat is in (found.0, sym (roll-out-Ground t) ∙ ap roll-Ground found.1 ∙ known.rolls-List found.0)

module _ (p : Program) (i : Instances) where
  base_no_list : (k : BaseKind) (v : Value) (vs : List Value) → v ≡ value.List vs → Fits p i v (base k) → ⊥
  base_no_list kind.Int v vs is fits = let found = int_of_fits p i v fits in none-some found.0 (sym (simp (value.outs-List)) ∙ ap int_in (sym is) ∙ found.1)
  base_no_list kind.Bool v vs is fits = let found = bool_of_fits p i v fits in none-some found.0 (sym (simp (value.outs-List)) ∙ ap bool_in (sym is) ∙ found.1)
  base_no_list kind.Text v vs is fits = let found = text_of_fits p i v fits in none-some found.0 (sym (simp (value.outs-List)) ∙ ap text_in (sym is) ∙ found.1)

  no_list : (t : Ground) (v : Value) (vs : List Value) → is_flat t ≡ true → v ≡ value.List vs → Fits p i v t → ⊥
  no_list t v vs flat is fits = by_test (is_base t) refl flat
    where
      by_test : (b : Bool) → is_base t ≡ b → (b || is_flat_row t) ≡ true → ⊥
      by_test true a_base flat = let one = base_is t a_base in base_no_list one.0 v vs is (subst (Fits p i v) one.1 fits)
      by_test false no_base flat =
          let row = flat_row_is t flat in
          let held = fits_fields p i v row.fields (subst (Fits p i v) row.is fits) in
          let nothing : fields_in (value.List vs) ≡ None = simp (value.outs-List) in
          none-some held.fs (sym nothing ∙ ap fields_in (sym is ∙ held.is) ∙ fields_shown held.fs)

  -- values of a flat type are the same where they are the same but for order
  pub like_flat : (t : Ground) (v w : Value) → is_flat t ≡ true → Fits p i w t → IsLike v w → v ≡ w
  like_flat t v w flat fits (same is) = is
  like_flat t v w flat fits (shuffled vs ws v_is w_is one) = absurd (no_list t w ws flat w_is fits)

  pub like_each : (ts : List Ground) (vs ws : List Value) → Each (λ t. is_flat t ≡ true) ts → FitEach p i ws ts → Both IsLike vs ws → vs ≡ ws
  like_each [] [] [] flat none_left likes = refl
  like_each [] (v ∷ vs) [] flat fits likes = absurd likes
  like_each [] vs (w ∷ ws) flat fits likes = elim fits [ ]
  like_each (t ∷ ts) vs [] flat fits likes = elim fits [ ]
  like_each (t ∷ ts) [] (w ∷ ws) flat fits likes = absurd likes
  like_each (t ∷ ts) (v ∷ vs) (w ∷ ws) flat (one_more fits rest) likes = ap₂ (λ x xs. x ∷ xs) (like_flat t v w flat.0 fits likes.0) (like_each ts vs ws flat.1 rest likes.1)

  -- what is like a value of a type has the type
  pub like_fits : (t : Ground) (v w : Value) → is_query_type t ≡ true → Fits p i w t → IsLike v w → Fits p i v t
  like_fits t v w query fits (same is) = subst (λ x. Fits p i x t) (sym is) fits
  like_fits t v w query fits (shuffled vs ws v_is w_is one) = by_test (is_flat t) refl query
    where
      by_test : (b : Bool) → is_flat t ≡ b → is_query_type t ≡ true → Fits p i v t
      by_test true flat query = absurd (no_list t w ws flat w_is fits)
      by_test false not_flat query =
          let a_list = rows_are t not_flat query in
          let held = fits_list p i w a_list.0 (subst (Fits p i w) a_list.1 fits) in
          let equal : held.0 ≡ ws = same_some (sym (list_shown held.0) ∙ ap list_in (sym held.1 ∙ w_is) ∙ list_shown ws) in
          subst (Fits p i v) (sym a_list.1)
          (subst (λ x. Fits p i x (known.List a_list.0)) (sym v_is) (list_fits p i vs a_list.0 (all_fit_permuted p i a_list.0 ws vs (subst (λ l. AllFit p i l a_list.0) equal held.2) (IsPermutation-sym vs ws one))))

  pub likes_fit : (ts : List Ground) (vs ws : List Value) → Each (λ t. is_query_type t ≡ true) ts → FitEach p i ws ts → Both IsLike vs ws → FitEach p i vs ts
  likes_fit [] [] [] query none_left likes = none_left
  likes_fit [] (v ∷ vs) [] query fits likes = absurd likes
  likes_fit [] vs (w ∷ ws) query fits likes = elim fits [ ]
  likes_fit (t ∷ ts) vs [] query fits likes = elim fits [ ]
  likes_fit (t ∷ ts) [] (w ∷ ws) query fits likes = absurd likes
  likes_fit (t ∷ ts) (v ∷ vs) (w ∷ ws) query (one_more fits rest) likes = one_more (like_fits t v w query.0 fits likes.0) (likes_fit ts vs ws query.1 rest likes.1)

  one_by_one : (f g : Value → List Value) (a : Ground) → ((v : Value) → Fits p i v a → IsPermutation (f v) (g v)) → (xs : List Value) → AllFit p i xs a → IsPermutation (flat_map f xs) (flat_map g xs)
  one_by_one f g a each [] fits = IsPermutation-refl []
  one_by_one f g a each (x ∷ xs) (fitting.more fit fits) = IsPermutation-append (f x) (g x) (flat_map f xs) (flat_map g xs) (each x fit) (one_by_one f g a each xs fits)

  -- lists made of elements that are the same but for order, where what is made of each is the same but for order
  pub flat_like : (f g : Value → List Value) (a : Ground) (vs ws : List Value) → AllFit p i vs a → IsPermutation vs ws → ((v : Value) → Fits p i v a → IsPermutation (f v) (g v)) → IsPermutation (flat_map f vs) (flat_map g ws)
  flat_like f g a vs ws fits shuffle each = IsPermutation-trans (flat_map f vs) (flat_map g vs) (flat_map g ws) (one_by_one f g a each vs fits) (flat_shuffled g vs ws shuffle)
