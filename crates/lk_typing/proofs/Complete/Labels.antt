-- Where the rule of an operator with labels or names gives a type, its equations hold.
use Rattle.std.proofs.Common.{◌≡◌, ℕ, ◌+◌, true, List, [], ◌∷◌, ◌++◌, length, refl, sym, subst, ap, ◌∙◌, Option, Some, None}
use Rattle.std.specs.Option.{option_map}
use native.Mathlib.Omega.{arith}
use Rattle.lk_ast.specs.declared.declaration.TableDecl.{TableDecl}
use Rattle.lk_types.proofs.Members.{each_both}
use Rattle.lk_types.specs.Grounding.{Grounding, under}
use Rattle.lk_types.specs.Rows.{Label, Row, EffectSet, no_fields}
use Rattle.lk_types.specs.Solutions.{IsMet}
use Rattle.lk_types.specs.declared.equation.Equation.{Equation}
use Rattle.lk_types.specs.declared.ground.Ground.{Ground}
use Rattle.lk_types.specs.declared.ground.Ground.TheVariants as known
use Rattle.lk_types.specs.declared.ty.Effect.TheVariants as effect
use Rattle.lk_types.specs.declared.ty.Effects.{Effects}
use Rattle.lk_types.specs.declared.ty.RowTail.TheVariants.{Closed, Var}
use Rattle.lk_types.specs.declared.ty.Ty.{Ty}
use Rattle.lk_types.specs.declared.ty.Ty.TheVariants as ty
use Rattle.lk_typing.proofs.EffectRows.{without}
use Rattle.lk_typing.proofs.Instances.{local_complete}
use Rattle.lk_typing.proofs.Lists.{length_both}
use Rattle.lk_typing.proofs.Meaning as letter
use Rattle.lk_typing.proofs.Meaning.{HasEffects, Names, Letter, Stand, OwnMet, seen}
use Rattle.lk_typing.proofs.Operators.{Labelled, labelled_both, row_is, under_row_of}
use Rattle.lk_typing.proofs.Complete.Simple.{plain_stands, has_it}
use Rattle.lk_typing.proofs.Values.{under_record, under_variant, under_unit, list_is, variable_is, function_is, meets}
use Rattle.lk_typing.specs.Equations.{Own, own, closed_record, extended, rows, inserted, local, called}
use Rattle.lk_typing.specs.Law.{Become}
use Rattle.lk_typing.specs.Names.{Named, named, IsRowOf, HasRows, table_named, row_known}
use Rattle.lk_typing.specs.Types.{record_of, variant_of, unit, function_of, with_fields, labelled}
use Rattle.lk_typing.specs.Unknowns as unknown
use Rattle.lk_typing.specs.Unknowns.{same}

module _ (σ : Grounding) (n : ℕ) where
  -- ---- records and variants

  pub record_complete : (labels : List Label) (types : List Ty) (ts : List Ground) (known_fields : List (Label × Ground)) (row : Row) → Become σ types ts
      → labelled labels ts ≡ Some (known_fields, []) → with_fields known_fields no_fields ≡ Some row
      → OwnMet σ (closed_record (labelled labels types) n) (0 + n) (record_of row)
  record_complete labels types ts known_fields row become at is =
      by_both (labelled labels types) (subst (λ p. Labelled σ (labelled labels types) p) at (labelled_both σ labels types ts become))
    where
      by_both : (o : Option (List (Label × Ty) × List Ty)) → Labelled σ o (Some (known_fields, [])) → OwnMet σ (closed_record o n) (0 + n) (record_of row)
      by_both None both = absurd both
      by_both (Some (fields, a ∷ more)) both = let wrong : Become σ (a ∷ more) [] = both.1 in cc
      by_both (Some (fields, [])) both =
          record { next = omega arith; equations = tt; ty = under_record σ fields known_fields Closed both.0 ∙ ap (option_map record_of) is }

  -- the new variable stands for the other record's fields
  pub extend_complete : (labels : List Label) (types : List Ty) (ts : List Ground) (known_fields : List (Label × Ground)) (other row : Row) → Become σ types ts
      → labelled labels ts ≡ Some (known_fields, record_of other ∷ []) → with_fields known_fields other ≡ Some row → Stand σ n (letter.row other ∷ [])
      → OwnMet σ (extended (labelled labels types) n) (1 + n) (record_of row)
  extend_complete labels types ts known_fields other row become at is stand =
      by_both (labelled labels types) (subst (λ p. Labelled σ (labelled labels types) p) at (labelled_both σ labels types ts become))
    where
      any : under σ (unknown.record_of [] (Var n)) ≡ Some (record_of other)
      any = row_is σ n ∙ ap (λ r. Some (record_of r)) stand.0.row

      extends : (fields : List (Label × Ty)) → seen (under σ) fields ≡ seen (λ t. Some t) known_fields → under σ (unknown.record_of fields (Var n)) ≡ Some (record_of row)
      extends fields become = under_record σ fields known_fields (Var n) become ∙ ap (λ r. option_map record_of (with_fields known_fields r)) stand.0.row ∙ ap (option_map record_of) is

      by_both : (o : Option (List (Label × Ty) × List Ty)) → Labelled σ o (Some (known_fields, record_of other ∷ [])) → OwnMet σ (extended o n) (1 + n) (record_of row)
      by_both None both = absurd both
      by_both (Some (fields, [])) both = let wrong : Become σ [] (record_of other ∷ []) = both.1 in cc
      by_both (Some (fields, a ∷ b ∷ more)) both = let wrong : Become σ (a ∷ b ∷ more) (record_of other ∷ []) = both.1 in cc
      by_both (Some (fields, a ∷ [])) both =
          let one : Become σ (a ∷ []) (record_of other ∷ []) = both.1 in
          let it : under σ a ≡ Some (record_of other) = cc in
          let whole : under σ (unknown.record_of fields (Var n)) ≡ Some (record_of row) = extends fields both.0 in
          record {
            next = refl;
            equations = (
              meets σ a (unknown.record_of [] (Var n)) (record_of other) it any,
              (meets σ (unknown.record_of fields (Var n)) (unknown.record_of fields (Var n)) (record_of row) whole whole, tt),
            );
            ty = whole;
          }

  -- the new variables stand for the field's type and the other fields
  pub project_complete : (l : Label) (a : Ty) (x : Ground) (other row : Row) → with_fields ((l, x) ∷ []) other ≡ Some row → Stand σ n (letter.plain x ∷ letter.row other ∷ [])
      → under σ a ≡ Some (record_of row)
      → OwnMet σ (own (ty.Var n) (same a (unknown.record_of ((l, ty.Var n) ∷ []) (Var (1 + n))) ∷ []) (2 + n)) (2 + n) x
  project_complete l a x other row is stand ax =
      let field : under σ (ty.Var n) ≡ Some x = plain_stands σ n x stand.0.plain in
      let becomes : under σ (unknown.record_of ((l, ty.Var n) ∷ []) (Var (1 + n))) ≡ Some (record_of row) =
      under_record σ ((l, ty.Var n) ∷ []) ((l, x) ∷ []) (Var (1 + n)) (ap (λ u. (l, u) ∷ []) field)
      ∙ ap (λ r. option_map record_of (with_fields ((l, x) ∷ []) r)) stand.1.0.row ∙ ap (option_map record_of) is in
      record { next = refl; equations = (meets σ a (unknown.record_of ((l, ty.Var n) ∷ []) (Var (1 + n))) (record_of row) ax becomes, tt); ty = field }

  pub tag_complete : (l : Label) (a : Ty) (x : Ground) (other row : Row) → with_fields ((l, x) ∷ []) other ≡ Some row → Stand σ n (letter.row other ∷ []) → under σ a ≡ Some x
      → OwnMet σ (own (unknown.variant_of ((l, a) ∷ []) (Var n)) [] (1 + n)) (1 + n) (variant_of row)
  tag_complete l a x other row is stand ax = record {
    next = refl;
    equations = tt;
    ty = under_variant σ ((l, a) ∷ []) ((l, x) ∷ []) (Var n) (ap (λ u. (l, u) ∷ []) ax)
        ∙ ap (λ r. option_map variant_of (with_fields ((l, x) ∷ []) r)) stand.0.row ∙ ap (option_map variant_of) is;
  }

  -- ---- tables

  list_of_rows : (table : TableDecl) (row : Row) → row_known table ≡ Some row → under σ (ty.List (unknown.row_of table)) ≡ Some (known.List (record_of row))
  list_of_rows table row is = list_is σ (unknown.row_of table) (record_of row) (under_row_of σ table ∙ ap (option_map record_of) is)

  module _ (tables : List TableDecl) (effects : Effects) (s : EffectSet) (are : HasEffects σ effects s) where
    pub table_complete : (x : Label) (row : Row) → HasRows tables x row → s effect.Scan ≡ true → Stand σ n (letter.effects (without effect.Scan s) ∷ [])
        → OwnMet σ (rows (table_named tables x) effects n) (1 + n) (known.List (record_of row))
    table_complete x row has_rows there stand = by_table (table_named tables x) has_rows
      where
        by_table : (o : Option TableDecl) → IsRowOf o row → OwnMet σ (rows o effects n) (1 + n) (known.List (record_of row))
        by_table None is = absurd is
        by_table (Some table) is = record { next = refl; equations = (has_it σ n effects s are effect.Scan n there stand.0, tt); ty = list_of_rows table row is }

    pub insert_complete : (x : Label) (a : Ty) (row : Row) → HasRows tables x row → s effect.Write ≡ true → Stand σ n (letter.effects (without effect.Write s) ∷ [])
        → under σ a ≡ Some (known.List (record_of row)) → OwnMet σ (inserted (table_named tables x) effects a n) (1 + n) unit
    insert_complete x a row has_rows there stand ax = by_table (table_named tables x) has_rows
      where
        by_table : (o : Option TableDecl) → IsRowOf o row → OwnMet σ (inserted o effects a n) (1 + n) unit
        by_table None is = absurd is
        by_table (Some table) is = record {
          next = refl;
          equations = (meets σ a (ty.List (unknown.row_of table)) (known.List (record_of row)) ax (list_of_rows table row is), (has_it σ n effects s are effect.Write n there stand.0, tt));
          ty = under_unit σ;
        }

  -- ---- names

  pub name_complete : (names : Named Ty) (known_names : Named Ground) (x : Label) (t : Ground) → Names σ names known_names → named x known_names ≡ Some t
      → OwnMet σ (local (named x names) n) (0 + n) t
  name_complete names known_names x t are is =
      let found : (a : Ty) × (named x names ≡ Some a) × (under σ a ≡ Some t) = local_complete σ names known_names x t are is in
      subst (λ o. OwnMet σ (local o n) (0 + n) t) (sym found.1) (record { next = omega arith; equations = tt; ty = found.2 })

  -- behind the letters of the function's own type stands one for the answer's type
  pub call_complete : (effects : Effects) (s : EffectSet) (types : List Ty) (ts : List Ground) (a : Ground) (o : Own) (ls : List Letter) → HasEffects σ effects s → Become σ types ts
      → OwnMet σ o (length ls + n) (function_of ts s a) → Stand σ (length ls + n) (letter.plain a ∷ [])
      → OwnMet σ (called effects types o) (length (ls ++ letter.plain a ∷ []) + n) a
  call_complete effects s types ts a o ls are become function stand =
      let it : σ.plain o.next ≡ a = ap σ.plain function.next ∙ stand.0.plain in
      let answer : under σ (ty.Var o.next) ≡ Some a = variable_is σ o.next a it in
      let equation : Equation = same o.ty (ty.Fun types effects (ty.Var o.next)) in
      let last : IsMet σ equation = meets σ o.ty (ty.Fun types effects (ty.Var o.next)) (function_of ts s a) function.ty (function_is σ types ts effects s (ty.Var o.next) a become are answer) in
      record {
        next = ap (λ k. 1 + k) function.next ∙ length_both ls (letter.plain a ∷ []) n;
        equations = each_both (IsMet σ) o.equations (equation ∷ []) function.equations (last, tt);
        ty = answer;
      }
