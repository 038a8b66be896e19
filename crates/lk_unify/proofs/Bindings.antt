-- What a substitution that is read back of the nodes puts for a variable.
use Rattle.std.proofs.Common.{◌≡◌, ℕ, Bool, true, false, List, [], ◌∷◌, ◌++◌, ◌⊎◌, inl, inr, Option, Some, None, cond, get_or, zero, suc, refl, sym, ◌∙◌, ap, subst}
use Rattle.std.proofs.lemmas.Bool.{eqb-true, eq-eqb, cases_Bool}
use Rattle.std.specs.FinMap as fin
use Rattle.std.specs.Map.{lookup}
use Rattle.std.specs.Option.{option_or}
use Rattle.std.specs.Prelude.{◌==◌, flat_map, is_some, map}
use Rattle.lk_types.specs.Each.{OneOf}
use Rattle.lk_types.specs.Rows.{label_order}
use Rattle.lk_types.specs.Solutions.{first_image, plain_of, row_of, effects_of, IsUnbound}
use Rattle.lk_types.specs.TypeText.{effect_word}
use Rattle.lk_types.specs.Variables.{same_variable}
use Rattle.lk_types.specs.declared.equation.Binding.{Binding}
use Rattle.lk_types.specs.declared.equation.Image.{Image}
use Rattle.lk_types.specs.declared.ty.Effect.{Effect}
use Rattle.lk_types.specs.declared.ty.RowTail.TheVariants.{Var}
use Rattle.lk_types.specs.declared.ty.Ty.TheVariants as ty
use Rattle.lk_types.specs.declared.ty.Variable.{Variable}
use Rattle.lk_types.specs.declared.ty.Variable.TheVariants as variable
use Rattle.lk_unify.proofs.Instances.{PutsAt}
use Rattle.lk_types.proofs.SameVariable.{same_is}
use Rattle.lk_unify.specs.Loading.{node_for}
use Rattle.lk_arena.specs.Openings.{only_tail, only_effects_tail, row_type, effects_type}
use Rattle.lk_unify.specs.NamedNodes.{node_at, number_of}
use Rattle.lk_unify.specs.Reading.{type_in, row_in, effects_in, value_or, opening_by, image_of, binding_by, subst_of}
use Rattle.lk_arena.specs.Values.{Value, Plain, OfRow}
use Rattle.lk_unify.specs.declared.loader.Loader.{Loader}
use Rattle.lk_unify.specs.declared.named_nodes.NamedNode.{NamedNode}

same_none : {A : Type 0} (b : Bool) → cond {A = Option A} b None None ≡ None
same_none true = refl
same_none false = refl

-- ---- for a variable of one kind

-- what the image of another variable is taken for
abbrev Passes : {A : Type 0} → (Image → Option A) → Variable → Type 0
Passes of_kind x = (y : Variable) (v : Value) → same_variable x y ≡ false → cond (number_of y == number_of x) (of_kind (image_of y v)) None ≡ None

module _ (l : Loader) (u : ℕ → Value) {A : Type 0} (of_kind : Image → Option A) (x : Variable) (value : Value → A)
    (here : (v : Value) → of_kind (image_of x v) ≡ Some (value v)) (there : Passes of_kind x) where
  binds : List Variable → List Binding
  binds xs = flat_map (λ y. binding_by y u (node_for l y)) xs

  -- another variable's binding is passed
  passed : (y : Variable) (o : Option ℕ) (bs : List Binding) → same_variable x y ≡ false → first_image of_kind (binding_by y u o ++ bs) (number_of x) ≡ first_image of_kind bs (number_of x)
  passed y None bs e = refl
  passed y (Some n) bs e = ap (λ o. option_or o (first_image of_kind bs (number_of x))) (there y (u n) e)

  own : (n : ℕ) (o : Option ℕ) (bs : List Binding) → o ≡ Some n → first_image of_kind (binding_by x u o ++ bs) (number_of x) ≡ Some (value (u n))
  own n o bs e =
      ap (λ o. first_image of_kind (binding_by x u o ++ bs) (number_of x)) e
      ∙ ap (λ b. option_or (cond b (of_kind (image_of x (u n))) None) (first_image of_kind bs (number_of x))) (eq-eqb (number_of x) (number_of x) refl)
      ∙ ap (λ o. option_or o (first_image of_kind bs (number_of x))) (here (u n))

  -- a variable without a node has no image
  without : (xs : List Variable) → node_for l x ≡ None → first_image of_kind (binds xs) (number_of x) ≡ None
  unfolding binds
  without [] none = refl
  without (y ∷ xs) none = by_test (cases_Bool (same_variable x y)) (without xs none)
    where
      by_test : ((same_variable x y ≡ true) ⊎ (same_variable x y ≡ false)) → first_image of_kind (binds xs) (number_of x) ≡ None → first_image of_kind (binds (y ∷ xs)) (number_of x) ≡ None
      by_test (inl t) ih =
          ap (λ y. first_image of_kind (binding_by y u (node_for l y) ++ binds xs) (number_of x)) (sym (same_is x y t))
          ∙ ap (λ o. first_image of_kind (binding_by x u o ++ binds xs) (number_of x)) none ∙ ih
      by_test (inr f) ih = passed y (node_for l y) (binds xs) f ∙ ih

  with_node : (xs : List Variable) (n : ℕ) → node_for l x ≡ Some n → OneOf (λ y. y ≡ x) xs → first_image of_kind (binds xs) (number_of x) ≡ Some (value (u n))
  unfolding binds
  with_node [] n some one = absurd one
  with_node (y ∷ xs) n some (inl is) = ap (λ y. first_image of_kind (binding_by y u (node_for l y) ++ binds xs) (number_of x)) is ∙ own n (node_for l x) (binds xs) some
  with_node (y ∷ xs) n some (inr one) = by_test (cases_Bool (same_variable x y)) (with_node xs n some one)
    where
      by_test : ((same_variable x y ≡ true) ⊎ (same_variable x y ≡ false)) → first_image of_kind (binds xs) (number_of x) ≡ Some (value (u n)) →
          first_image of_kind (binds (y ∷ xs)) (number_of x) ≡ Some (value (u n))
      by_test (inl t) ih = ap (λ y. first_image of_kind (binding_by y u (node_for l y) ++ binds xs) (number_of x)) (sym (same_is x y t)) ∙ own n (node_for l x) (binds xs) some
      by_test (inr f) ih = passed y (node_for l y) (binds xs) f ∙ ih

  pub no_image : (xs : List Variable) → node_for l x ≡ None → first_image of_kind (subst_of xs l u).binds (number_of x) ≡ None
  unfolding binds
  no_image xs none = without xs none

  pub image_is : (xs : List Variable) (n : ℕ) → node_for l x ≡ Some n → OneOf (λ y. y ≡ x) xs → first_image of_kind (subst_of xs l u).binds (number_of x) ≡ Some (value (u n))
  unfolding binds
  image_is xs n some one = with_node xs n some one

-- ---- for the three kinds

none_at : (e : Effect) → (effects_in (only_tail (Var 0))).labels e ≡ false
none_at e = let g : fin.get (only_tail (Var 0)).fields (effect_word e) ≡ None = fin.get-empty label_order (effect_word e) in ap is_some g

no_labels : (n : ℕ) → effects_in (only_tail (Var n)) ≡ only_effects_tail (Var n)
no_labels n = ap (λ labels. record { labels = labels; tail = Var n }) (λ i e. none_at e i)

passes_plain : (n : ℕ) → Passes plain_of (variable.Plain n)
passes_plain n (variable.Plain m) v e = ap (λ b. cond b (Some (type_in v)) None) (other (m == n) refl)
  where
    other : (b : Bool) → (m == n) ≡ b → (m == n) ≡ false
    other false is = is
    other true is = let f : true ≡ false = sym (eq-eqb n m (sym (eqb-true m n is))) ∙ e in cc
passes_plain n (variable.Row m) v e = same_none (m == n)
passes_plain n (variable.Effects m) v e = same_none (m == n)

passes_row : (n : ℕ) → Passes row_of (variable.Row n)
passes_row n (variable.Row m) v e = ap (λ b. cond b (Some (row_type (row_in v))) None) (other (m == n) refl)
  where
    other : (b : Bool) → (m == n) ≡ b → (m == n) ≡ false
    other false is = is
    other true is = let f : true ≡ false = sym (eq-eqb n m (sym (eqb-true m n is))) ∙ e in cc
passes_row n (variable.Plain m) v e = same_none (m == n)
passes_row n (variable.Effects m) v e = same_none (m == n)

passes_effects : (n : ℕ) → Passes effects_of (variable.Effects n)
passes_effects n (variable.Effects m) v e = ap (λ b. cond b (Some (effects_type (effects_in (row_in v)))) None) (other (m == n) refl)
  where
    other : (b : Bool) → (m == n) ≡ b → (m == n) ≡ false
    other false is = is
    other true is = let f : true ≡ false = sym (eq-eqb n m (sym (eqb-true m n is))) ∙ e in cc
passes_effects n (variable.Plain m) v e = same_none (m == n)
passes_effects n (variable.Row m) v e = same_none (m == n)

-- a variable that has a node is among these
abbrev pub IsRead : List Variable → Loader → Variable → Type 0
IsRead xs l x = (n : ℕ) → node_for l x ≡ Some n → OneOf (λ y. y ≡ x) xs

module _ (xs : List Variable) (l : Loader) (u : ℕ → Value) where
  pub unbound : (x : Variable) → node_for l x ≡ None → IsUnbound (subst_of xs l u) x
  unbound (variable.Plain n) is = no_image l u plain_of (variable.Plain n) type_in (λ v. refl) (passes_plain n) xs is
  unbound (variable.Row n) is = no_image l u row_of (variable.Row n) (λ v. row_type (row_in v)) (λ v. refl) (passes_row n) xs is
  unbound (variable.Effects n) is = no_image l u effects_of (variable.Effects n) (λ v. effects_type (effects_in (row_in v))) (λ v. refl) (passes_effects n) xs is

  pub puts_at : (x : Variable) → IsRead xs l x → PutsAt (subst_of xs l u) (opening_by l u) x
  puts_at (variable.Plain n) read = by_node (node_for l (variable.Plain n)) refl
    where
      by_node : (o : Option ℕ) → node_for l (variable.Plain n) ≡ o → PutsAt (subst_of xs l u) (opening_by l u) (variable.Plain n)
      by_node None is = inl (unbound (variable.Plain n) is, ap (λ o. type_in (value_or o u (Plain (ty.Var n)))) is)
      by_node (Some m) is = inr (image_is l u plain_of (variable.Plain n) type_in (λ v. refl) (passes_plain n) xs m is (read m is)
          ∙ ap Some (sym (ap (λ o. type_in (value_or o u (Plain (ty.Var n)))) is)))
  puts_at (variable.Row n) read = by_node (node_for l (variable.Row n)) refl
    where
      by_node : (o : Option ℕ) → node_for l (variable.Row n) ≡ o → PutsAt (subst_of xs l u) (opening_by l u) (variable.Row n)
      by_node None is = inl (unbound (variable.Row n) is, ap (λ o. row_in (value_or o u (OfRow (only_tail (Var n))))) is)
      by_node (Some m) is = inr (image_is l u row_of (variable.Row n) (λ v. row_type (row_in v)) (λ v. refl) (passes_row n) xs m is (read m is)
          ∙ ap Some (sym (ap (λ o. row_type (row_in (value_or o u (OfRow (only_tail (Var n)))))) is)))
  puts_at (variable.Effects n) read = by_node (node_for l (variable.Effects n)) refl
    where
      by_node : (o : Option ℕ) → node_for l (variable.Effects n) ≡ o → PutsAt (subst_of xs l u) (opening_by l u) (variable.Effects n)
      by_node None is =
          inl (unbound (variable.Effects n) is, ap (λ o. effects_in (row_in (value_or o u (OfRow (only_tail (Var n)))))) is ∙ no_labels n)
      by_node (Some m) is = inr (image_is l u effects_of (variable.Effects n) (λ v. effects_type (effects_in (row_in v))) (λ v. refl) (passes_effects n) xs m is (read m is)
          ∙ ap Some (sym (ap (λ o. effects_type (effects_in (row_in (value_or o u (OfRow (only_tail (Var n))))))) is)))

-- ---- for all variables that have nodes

-- the variables that have places, and these
abbrev pub placed : List (Option NamedNode) → List Variable → List Variable
placed [] xs = xs
placed (None ∷ places) xs = placed places xs
placed (Some found ∷ places) xs = found.variable ∷ placed places xs

abbrev pub names_of : Loader → List Variable
names_of l = placed l.names.places.items (map (λ e. e.0) l.names.others.entries)

found_there : (x : Variable) (es : List (Variable × ℕ)) (n : ℕ) → lookup (same_variable x) es ≡ Some n → OneOf (λ y. y ≡ x) (map (λ e. e.0) es)
found_there x [] n is = let f : None ≡ Some n = is in cc
found_there x (e ∷ es) n is = by_test (cases_Bool (same_variable x e.0)) (found_there x es n)
  where
    by_test : ((same_variable x e.0 ≡ true) ⊎ (same_variable x e.0 ≡ false)) → (lookup (same_variable x) es ≡ Some n → OneOf (λ y. y ≡ x) (map (λ e. e.0) es)) → OneOf (λ y. y ≡ x) (map (λ e. e.0) (e ∷ es))
    by_test (inl t) ih = inl (sym (same_is x e.0 t))
    by_test (inr f) ih = inr (ih (sym (ap (λ b. cond b (Some e.1) (lookup (same_variable x) es)) f) ∙ is))

behind_places : (P : Variable → Type 0) (places : List (Option NamedNode)) (xs : List Variable) → OneOf P xs → OneOf P (placed places xs)
behind_places P [] xs one = one
behind_places P (None ∷ places) xs one = behind_places P places xs one
behind_places P (Some found ∷ places) xs one = inr (behind_places P places xs one)

at_place : (places : List (Option NamedNode)) (xs : List Variable) (i : ℕ) (found : NamedNode) → get_or places i None ≡ Some found → OneOf (λ y. y ≡ found.variable) (placed places xs)
at_place [] xs zero found is = let f : None ≡ Some found = is in cc
at_place [] xs (suc i) found is = let f : None ≡ Some found = is in cc
at_place (None ∷ places) xs zero found is = let f : None ≡ Some found = is in cc
at_place (Some other ∷ places) xs zero found is = inl (ap (λ f. f.variable) (let same : other ≡ found = cc in same))
at_place (None ∷ places) xs (suc i) found is = at_place places xs i found is
at_place (Some other ∷ places) xs (suc i) found is = inr (at_place places xs i found is)

in_map : (places : List (Option NamedNode)) (others : List (Variable × ℕ)) (x : Variable) (n : ℕ) → lookup (same_variable x) others ≡ Some n →
    OneOf (λ y. y ≡ x) (placed places (map (λ e. e.0) others))
in_map places others x n is = behind_places (λ y. y ≡ x) places (map (λ e. e.0) others) (found_there x others n is)

by_place : (places : List (Option NamedNode)) (others : List (Variable × ℕ)) (x : Variable) (n : ℕ) (o : Option NamedNode) → get_or places (number_of x) None ≡ o →
    node_at o x (lookup (same_variable x) others) ≡ Some n → OneOf (λ y. y ≡ x) (placed places (map (λ e. e.0) others))
by_place places others x n None at is = in_map places others x n is
by_place places others x n (Some found) at is = by_test (cases_Bool (same_variable x found.variable))
  where
    by_test : ((same_variable x found.variable ≡ true) ⊎ (same_variable x found.variable ≡ false)) → OneOf (λ y. y ≡ x) (placed places (map (λ e. e.0) others))
    by_test (inl t) =
        subst (λ z. OneOf (λ y. y ≡ z) (placed places (map (λ e. e.0) others))) (sym (same_is x found.variable t))
        (at_place places (map (λ e. e.0) others) (number_of x) found at)
    by_test (inr f) = in_map places others x n (sym (ap (λ b. cond b (Some found.node) (lookup (same_variable x) others)) f) ∙ is)

pub all_read : (l : Loader) (x : Variable) → IsRead (names_of l) l x
all_read l x n is = by_place l.names.places.items l.names.others.entries x n (get_or l.names.places.items (number_of x) None) refl is
