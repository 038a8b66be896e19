-- What the two halves for operators share: what types become, one by one, and what can't be met.
use Rattle.std.proofs.Common.{◌≡◌, ℕ, List, [], ◌∷◌, map, refl, sym, subst, ap₂, ◌∙◌, Option, Some, None}
use Rattle.std.specs.Option.{option_map}
use Rattle.lk_ast.specs.declared.declaration.ColumnDecl.{ColumnDecl}
use Rattle.lk_ast.specs.declared.declaration.TableDecl.{TableDecl}
use Rattle.lk_types.proofs.Parts.{same_some}
use Rattle.lk_types.specs.Grounding.{Grounding, under}
use Rattle.lk_types.specs.Rows.{Label}
use Rattle.lk_types.specs.declared.ground.Ground.{Ground}
use Rattle.lk_types.specs.declared.ty.RowTail.TheVariants.{Closed, Var}
use Rattle.lk_types.specs.declared.ty.Ty.{Ty}
use Rattle.lk_typing.proofs.Meaning.{seen}
use Rattle.lk_typing.proofs.Values.{under_record, under_base}
use Rattle.lk_typing.specs.Law.{Become}
use Rattle.lk_typing.specs.Names.{column, row_known}
use Rattle.lk_typing.specs.Types.{record_of, labelled}
use Rattle.lk_typing.specs.Unknowns as unknown

-- ---- the rows of a table

abbrev column_type : ColumnDecl → Label × Ty
column_type c = (c.label.text, unknown.base c.kind)

-- ---- what types become

module _ (σ : Grounding) where
  -- types become one list only
  pub become_same : (types : List Ty) (ts us : List Ground) → Become σ types ts → Become σ types us → ts ≡ us
  become_same types ts us one other = known_same ts us (sym one ∙ other)
    where
      known_same : (ts us : List Ground) → map (λ t. Some t) ts ≡ map (λ t. Some t) us → ts ≡ us
      known_same [] [] is = refl
      known_same [] (u ∷ us) is = cc
      known_same (t ∷ ts) [] is = cc
      known_same (t ∷ ts) (u ∷ us) is =
          let first : Some t ≡ Some u = cc in
          let more : map (λ t. Some t) ts ≡ map (λ t. Some t) us = cc in
          ap₂ (λ a as'. a ∷ as') (same_some first) (known_same ts us more)

  -- what a first type and those behind it become
  pub known_first : (P : List Ground → Type 0) (a : Ty) (more : List Ty) (ts : List Ground) → Become σ (a ∷ more) ts
      → ((x : Ground) (xs : List Ground) → under σ a ≡ Some x → Become σ more xs → P (x ∷ xs)) → P ts
  known_first P a more [] is then = cc
  known_first P a more (x ∷ xs) is then =
      let one : under σ a ≡ Some x = cc in
      let rest : Become σ more xs = cc in
      then x xs one rest

  pub known_none : (ts : List Ground) → Become σ [] ts → ts ≡ []
  known_none [] is = refl
  known_none (t ∷ ts) is = cc

  -- the same backwards
  pub types_first : (P : List Ty → Type 0) (types : List Ty) (x : Ground) (xs : List Ground) → Become σ types (x ∷ xs)
      → ((a : Ty) (more : List Ty) → under σ a ≡ Some x → Become σ more xs → P (a ∷ more)) → P types
  types_first P [] x xs is then = cc
  types_first P (a ∷ more) x xs is then =
      let one : under σ a ≡ Some x = cc in
      let rest : Become σ more xs = cc in
      then a more one rest

  pub types_none : (types : List Ty) → Become σ types [] → types ≡ []
  types_none [] is = refl
  types_none (t ∷ types) is = cc

  pub types_one : (P : List Ty → Type 0) (types : List Ty) (x : Ground) → Become σ types (x ∷ [])
      → ((a : Ty) → under σ a ≡ Some x → P (a ∷ [])) → P types
  types_one P types x is then = types_first P types x [] is (λ a more ax rest. subst (λ more. P (a ∷ more)) (sym (types_none more rest)) (then a ax))

  pub types_two : (P : List Ty → Type 0) (types : List Ty) (x y : Ground) → Become σ types (x ∷ y ∷ [])
      → ((a b : Ty) → under σ a ≡ Some x → under σ b ≡ Some y → P (a ∷ b ∷ [])) → P types
  types_two P types x y is then = types_first P types x (y ∷ []) is (λ a more ax rest. types_one (λ more. P (a ∷ more)) more y rest (λ b by. then a b ax by))

  pub types_three : (P : List Ty → Type 0) (types : List Ty) (x y z : Ground) → Become σ types (x ∷ y ∷ z ∷ [])
      → ((a b c : Ty) → under σ a ≡ Some x → under σ b ≡ Some y → under σ c ≡ Some z → P (a ∷ b ∷ c ∷ [])) → P types
  types_three P types x y z is then = types_first P types x (y ∷ z ∷ []) is (λ a more ax rest. types_two (λ more. P (a ∷ more)) more y z rest (λ b c by cz. then a b c ax by cz))

  -- ---- labels with types

  -- labels with types, and with what those become
  abbrev pub Labelled : Option (List (Label × Ty) × List Ty) → Option (List (Label × Ground) × List Ground) → Type 0
  Labelled None None = Unit {0}
  Labelled (Some found) (Some known) = (seen (under σ) found.0 ≡ seen (λ t. Some t) known.0) × Become σ found.1 known.1
  Labelled found known = ⊥

  pub labelled_both : (labels : List Label) (types : List Ty) (ts : List Ground) → Become σ types ts → Labelled (labelled labels types) (labelled labels ts)
  labelled_both [] types ts is = (refl, is)
  labelled_both (l ∷ ls) [] [] is = tt
  labelled_both (l ∷ ls) [] (t ∷ ts) is = cc
  labelled_both (l ∷ ls) (a ∷ types) [] is = cc
  labelled_both (l ∷ ls) (a ∷ types) (t ∷ ts) is = one_more (labelled ls types) (labelled ls ts) (labelled_both ls types ts cc) cc
    where
      one_more : (o : Option (List (Label × Ty) × List Ty)) (p : Option (List (Label × Ground) × List Ground)) → Labelled o p → under σ a ≡ Some t
          → Labelled (option_map (λ found. ((l, a) ∷ found.0, found.1)) o) (option_map (λ found. ((l, t) ∷ found.0, found.1)) p)
      one_more None None both one = tt
      one_more None (Some known) both one = absurd both
      one_more (Some found) None both one = absurd both
      one_more (Some found) (Some known) both one = (ap₂ (λ u more. (l, u) ∷ more) one both.0, both.1)

  -- a record that is any row becomes that row
  pub row_is : (n : ℕ) → under σ (unknown.record_of [] (Var n)) ≡ Some (record_of (σ.rows n))
  row_is n = under_record σ [] [] (Var n) refl

  -- what the type of a table's rows becomes
  pub under_row_of : (table : TableDecl) → under σ (unknown.row_of table) ≡ option_map record_of (row_known table)
  under_row_of table = under_record σ (map column_type table.columns) (map column table.columns) Closed (columns_seen table.columns)
    where
      columns_seen : (columns : List ColumnDecl) → seen (under σ) (map column_type columns) ≡ seen (λ t. Some t) (map column columns)
      columns_seen [] = refl
      columns_seen (c ∷ columns) = ap₂ (λ u more. (c.label.text, u) ∷ more) (under_base σ c.kind) (columns_seen columns)
