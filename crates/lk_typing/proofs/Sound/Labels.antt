-- Where the equations of an operator with labels or names hold, its rule gives its type.
use Rattle.std.proofs.Common.{◌≡◌, ℕ, List, [], ◌∷◌, refl, sym, subst, ap, ◌∙◌, Option, Some, None, IsSome}
use Rattle.std.specs.Option.{option_map}
use Rattle.lk_ast.specs.declared.declaration.TableDecl.{TableDecl}
use Rattle.lk_types.proofs.Members.{each_front, each_back}
use Rattle.lk_types.proofs.Parts.{same_some, mapped}
use Rattle.lk_types.specs.Each.{Each}
use Rattle.lk_types.specs.Grounding.{Grounding, under}
use Rattle.lk_types.specs.Rows.{Label, Row, EffectSet, no_fields}
use Rattle.lk_types.specs.Solutions.{IsMet}
use Rattle.lk_types.specs.declared.equation.Equation.{Equation}
use Rattle.lk_types.specs.declared.ground.Ground.{Ground}
use Rattle.lk_types.specs.declared.ground.Ground.TheVariants as known
use Rattle.lk_types.specs.declared.ty.Effect.TheVariants as effect
use Rattle.lk_types.specs.declared.ty.Effects.{Effects}
use Rattle.lk_types.specs.declared.ty.RowTail.TheVariants.{Closed, Var}
use Rattle.lk_types.specs.declared.ty.Ty.{Ty}
use Rattle.lk_types.specs.declared.ty.Ty.TheVariants as ty
use Rattle.lk_typing.proofs.EffectRows.{has_sound}
use Rattle.lk_typing.proofs.Instances.{never_met, local_sound, used_sound}
use Rattle.lk_typing.proofs.Meaning.{HasEffects, Functions, Names}
use Rattle.lk_typing.proofs.Nodes.{there_is}
use Rattle.lk_typing.proofs.Operators.{known_first, known_none, Labelled, labelled_both, row_is, under_row_of}
use Rattle.lk_typing.proofs.Sound.Simple.{Gets, by_rule, one, plain_is}
use Rattle.lk_typing.proofs.Values.{under_record, under_variant, under_unit, list_is, list_was, function_is, met_back}
use Rattle.lk_typing.specs.Equations.{Own, closed_record, extended, rows, inserted, local, used, called}
use Rattle.lk_typing.specs.Heads as head
use Rattle.lk_typing.specs.Law.{Become}
use Rattle.lk_typing.specs.Names.{Named, named, Entry, MayBe, IsRowOf, table_named, row_known}
use Rattle.lk_typing.specs.Rules.{Rule}
use Rattle.lk_typing.specs.Types.{record_of, variant_of, unit, function_of, with_fields, labelled}
use Rattle.lk_typing.specs.Unknowns as unknown
use Rattle.lk_typing.specs.Unknowns.{same}

module _ (σ : Grounding) (known_functions : Named (Entry Ground)) (tables : List TableDecl) (known_names : Named Ground) (s : EffectSet) where
  -- ---- records and variants

  pub record_sound : (labels : List Label) (types : List Ty) (ts : List Ground) (n : ℕ) → Become σ types ts
      → Each (IsMet σ) (closed_record (labelled labels types) n).equations → IsSome (under σ (closed_record (labelled labels types) n).ty)
      → Gets σ known_functions tables known_names s (head.Record labels) ts (closed_record (labelled labels types) n).ty
  record_sound labels types ts n is met some = by_both (labelled labels types) (labelled labels ts) refl (labelled_both σ labels types ts is) met some
    where
      by_both : (o : Option (List (Label × Ty) × List Ty)) (p : Option (List (Label × Ground) × List Ground)) → labelled labels ts ≡ p → Labelled σ o p
          → Each (IsMet σ) (closed_record o n).equations → IsSome (under σ (closed_record o n).ty)
          → Gets σ known_functions tables known_names s (head.Record labels) ts (closed_record o n).ty
      by_both None p at both met some = absurd (never_met σ met.0)
      by_both (Some (fields, [])) None at both met some = absurd both
      by_both (Some (fields, [])) (Some (known_fields, x ∷ xs)) at both met some = let wrong : Become σ [] (x ∷ xs) = both.1 in cc
      by_both (Some (fields, [])) (Some (known_fields, [])) at both met some =
          let becomes : under σ (unknown.record_of fields Closed) ≡ option_map record_of (with_fields known_fields no_fields) = under_record σ fields known_fields Closed both.0 in
          let found : (g : Ground) × (under σ (unknown.record_of fields Closed) ≡ Some g) = there_is (under σ (unknown.record_of fields Closed)) some in
          let row : (r : Row) × (with_fields known_fields no_fields ≡ Some r) × (found.0 ≡ record_of r) =
          mapped record_of (with_fields known_fields no_fields) found.0 (sym becomes ∙ found.1) in
          (record_of row.0, becomes ∙ ap (option_map record_of) row.1, Rule.closed_record known_fields row.0 at row.1)
      by_both (Some (fields, r ∷ rs)) p at both met some = absurd (never_met σ met.0)

  pub extend_sound : (labels : List Label) (types : List Ty) (ts : List Ground) (n : ℕ) → Become σ types ts
      → Each (IsMet σ) (extended (labelled labels types) n).equations
      → Gets σ known_functions tables known_names s (head.Extend labels) ts (extended (labelled labels types) n).ty
  extend_sound labels types ts n is met = by_both (labelled labels types) (labelled labels ts) refl (labelled_both σ labels types ts is) met
    where
      by_both : (o : Option (List (Label × Ty) × List Ty)) (p : Option (List (Label × Ground) × List Ground)) → labelled labels ts ≡ p → Labelled σ o p
          → Each (IsMet σ) (extended o n).equations
          → Gets σ known_functions tables known_names s (head.Extend labels) ts (extended o n).ty
      by_both None p at both met = absurd (never_met σ met.0)
      by_both (Some (fields, [])) p at both met = absurd (never_met σ met.0)
      by_both (Some (fields, a ∷ b ∷ more)) p at both met = absurd (never_met σ met.0)
      by_both (Some (fields, a ∷ [])) None at both met = absurd both
      by_both (Some (fields, a ∷ [])) (Some (known_fields, [])) at both met = let wrong : Become σ (a ∷ []) [] = both.1 in cc
      by_both (Some (fields, a ∷ [])) (Some (known_fields, x ∷ y ∷ xs)) at both met = let wrong : Become σ (a ∷ []) (x ∷ y ∷ xs) = both.1 in cc
      by_both (Some (fields, a ∷ [])) (Some (known_fields, x ∷ [])) at both met =
          let becomes : under σ (unknown.record_of fields (Var n)) ≡ option_map record_of (with_fields known_fields (σ.rows n)) = under_record σ fields known_fields (Var n) both.0 in
          let row : (r : Row) × (with_fields known_fields (σ.rows n) ≡ Some r) × (met.1.0.0 ≡ record_of r) =
          mapped record_of (with_fields known_fields (σ.rows n)) met.1.0.0 (sym becomes ∙ met.1.0.1) in
          let one_becomes : Become σ (a ∷ []) (x ∷ []) = both.1 in
          let it : under σ a ≡ Some x = cc in
          let other : x ≡ record_of (σ.rows n) = same_some (sym it ∙ met_back σ a (unknown.record_of [] (Var n)) (record_of (σ.rows n)) (row_is σ n) met.0) in (
            record_of row.0,
            becomes ∙ ap (option_map record_of) row.1,
            Rule.extend known_fields (σ.rows n) row.0 (at ∙ ap (λ g. Some (known_fields, g ∷ [])) other) row.1,
          )

  pub project_sound : (l : Label) (a : Ty) (ts : List Ground) (n m : ℕ) → Become σ (a ∷ []) ts → Each (IsMet σ) (same a (unknown.record_of ((l, ty.Var n) ∷ []) (Var m)) ∷ [])
      → Gets σ known_functions tables known_names s (head.Project l) ts (ty.Var n)
  project_sound l a ts n m is met =
      let becomes : under σ (unknown.record_of ((l, ty.Var n) ∷ []) (Var m)) ≡ option_map record_of (with_fields ((l, σ.plain n) ∷ []) (σ.rows m)) =
      under_record σ ((l, ty.Var n) ∷ []) ((l, σ.plain n) ∷ []) (Var m) (ap (λ u. (l, u) ∷ []) (plain_is σ n)) in
      let row : (r : Row) × (with_fields ((l, σ.plain n) ∷ []) (σ.rows m) ≡ Some r) × (met.0.0 ≡ record_of r) =
      mapped record_of (with_fields ((l, σ.plain n) ∷ []) (σ.rows m)) met.0.0 (sym becomes ∙ met.0.2) in
      by_rule σ known_functions tables known_names s (head.Project l) (a ∷ []) ts (record_of row.0 ∷ []) (ty.Var n) (σ.plain n) is
      (one σ a (record_of row.0) (met.0.1 ∙ ap (λ g. Some g) row.2)) (plain_is σ n) (Rule.project (σ.rows m) row.0 row.1)

  pub tag_sound : (l : Label) (a : Ty) (ts : List Ground) (n : ℕ) → Become σ (a ∷ []) ts → IsSome (under σ (unknown.variant_of ((l, a) ∷ []) (Var n)))
      → Gets σ known_functions tables known_names s (head.Tag l) ts (unknown.variant_of ((l, a) ∷ []) (Var n))
  tag_sound l a ts n is some =
      known_first σ (λ ts. Gets σ known_functions tables known_names s (head.Tag l) ts (unknown.variant_of ((l, a) ∷ []) (Var n))) a [] ts is
      (λ x xs ax rest.
      let becomes : under σ (unknown.variant_of ((l, a) ∷ []) (Var n)) ≡ option_map variant_of (with_fields ((l, x) ∷ []) (σ.rows n)) =
      under_variant σ ((l, a) ∷ []) ((l, x) ∷ []) (Var n) (ap (λ u. (l, u) ∷ []) ax) in
      let found : (g : Ground) × (under σ (unknown.variant_of ((l, a) ∷ []) (Var n)) ≡ Some g) = there_is (under σ (unknown.variant_of ((l, a) ∷ []) (Var n))) some in
      let row : (r : Row) × (with_fields ((l, x) ∷ []) (σ.rows n) ≡ Some r) × (found.0 ≡ variant_of r) =
      mapped variant_of (with_fields ((l, x) ∷ []) (σ.rows n)) found.0 (sym becomes ∙ found.1) in (
        variant_of row.0,
        becomes ∙ ap (option_map variant_of) row.1,
        subst (λ xs. Rule known_functions tables known_names s (head.Tag l) (x ∷ xs) (variant_of row.0)) (sym (known_none σ xs rest)) (Rule.tag (σ.rows n) row.0 row.1),
      ))

  -- ---- tables

  module _ (effects : Effects) (are : HasEffects σ effects s) where
    pub table_sound : (x : Label) (ts : List Ground) (n : ℕ) → Become σ [] ts
        → Each (IsMet σ) (rows (table_named tables x) effects n).equations → IsSome (under σ (rows (table_named tables x) effects n).ty)
        → Gets σ known_functions tables known_names s (head.Table x) ts (rows (table_named tables x) effects n).ty
    table_sound x ts n is met some = by_table (table_named tables x) refl met some
      where
        by_table : (o : Option TableDecl) → table_named tables x ≡ o → Each (IsMet σ) (rows o effects n).equations → IsSome (under σ (rows o effects n).ty)
            → Gets σ known_functions tables known_names s (head.Table x) ts (rows o effects n).ty
        by_table None at met some = absurd (never_met σ met.0)
        by_table (Some table) at met some =
            let found : (g : Ground) × (under σ (ty.List (unknown.row_of table)) ≡ Some g) = there_is (under σ (ty.List (unknown.row_of table))) some in
            let inner : (a : Ground) × (under σ (unknown.row_of table) ≡ Some a) × (found.0 ≡ known.List a) = list_was σ (unknown.row_of table) found.0 found.1 in
            let row : (r : Row) × (row_known table ≡ Some r) × (inner.0 ≡ record_of r) = mapped record_of (row_known table) inner.0 (sym (under_row_of σ table) ∙ inner.1) in
            let becomes : under σ (ty.List (unknown.row_of table)) ≡ Some (known.List (record_of row.0)) =
            list_is σ (unknown.row_of table) (record_of row.0) (inner.1 ∙ ap (λ g. Some g) row.2) in
            by_rule σ known_functions tables known_names s (head.Table x) [] ts [] (ty.List (unknown.row_of table)) (known.List (record_of row.0)) is refl becomes
            (Rule.table row.0 (subst (λ o. IsRowOf o row.0) (sym at) row.1) (has_sound σ effects s effect.Scan n are met.0))

    pub insert_sound : (x : Label) (a : Ty) (ts : List Ground) (n : ℕ) → Become σ (a ∷ []) ts → Each (IsMet σ) (inserted (table_named tables x) effects a n).equations
        → Gets σ known_functions tables known_names s (head.Insert x) ts (inserted (table_named tables x) effects a n).ty
    insert_sound x a ts n is met = by_table (table_named tables x) refl met
      where
        by_table : (o : Option TableDecl) → table_named tables x ≡ o → Each (IsMet σ) (inserted o effects a n).equations
            → Gets σ known_functions tables known_names s (head.Insert x) ts (inserted o effects a n).ty
        by_table None at met = absurd (never_met σ met.0)
        by_table (Some table) at met =
            let inner : (b : Ground) × (under σ (unknown.row_of table) ≡ Some b) × (met.0.0 ≡ known.List b) = list_was σ (unknown.row_of table) met.0.0 met.0.2 in
            let row : (r : Row) × (row_known table ≡ Some r) × (inner.0 ≡ record_of r) = mapped record_of (row_known table) inner.0 (sym (under_row_of σ table) ∙ inner.1) in
            by_rule σ known_functions tables known_names s (head.Insert x) (a ∷ []) ts (known.List (record_of row.0) ∷ []) unknown.unit unit is
            (one σ a (known.List (record_of row.0)) (met.0.1 ∙ ap (λ g. Some g) inner.2 ∙ ap (λ b. Some (known.List b)) row.2)) (under_unit σ)
            (Rule.insert row.0 (subst (λ o. IsRowOf o row.0) (sym at) row.1) (has_sound σ effects s effect.Write n are met.1.0))

  -- ---- names

  pub name_sound : (names : Named Ty) (x : Label) (ts : List Ground) (n : ℕ) → Names σ names known_names → Become σ [] ts → Each (IsMet σ) (local (named x names) n).equations
      → Gets σ known_functions tables known_names s (head.Local x) ts (local (named x names) n).ty
  name_sound names x ts n are is met = by_type (named x names) refl met
    where
      by_type : (o : Option Ty) → named x names ≡ o → Each (IsMet σ) (local o n).equations → Gets σ known_functions tables known_names s (head.Local x) ts (local o n).ty
      by_type None at met = absurd (never_met σ met.0)
      by_type (Some t) at met =
          let found : (g : Ground) × (under σ t ≡ Some g) × (named x known_names ≡ Some g) = local_sound σ names known_names x t are at in
          by_rule σ known_functions tables known_names s (head.Local x) [] ts [] t found.0 is refl found.1 (Rule.local found.2)

  module _ (functions : Named (Entry Ty)) (same_functions : Functions σ functions known_functions) where
    pub function_sound : (g : Label) (ts : List Ground) (n : ℕ) → Become σ [] ts → Each (IsMet σ) (used (named g functions) n).equations → IsSome (under σ (used (named g functions) n).ty)
        → Gets σ known_functions tables known_names s (head.Function g) ts (used (named g functions) n).ty
    function_sound g ts n is met some =
        let found : (t : Ground) × (under σ (used (named g functions) n).ty ≡ Some t) × MayBe known_functions g t = used_sound σ functions known_functions g n same_functions met some in
        by_rule σ known_functions tables known_names s (head.Function g) [] ts [] (used (named g functions) n).ty found.0 is refl found.1 (Rule.function found.2)

    -- what is called has the parts' types, and the effects of where it is called
    pub call_sound : (effects : Effects) (g : Label) (types : List Ty) (ts : List Ground) (n : ℕ) → HasEffects σ effects s → Become σ types ts
        → Each (IsMet σ) (called effects types (used (named g functions) n)).equations
        → Gets σ known_functions tables known_names s (head.Call g) ts (called effects types (used (named g functions) n)).ty
    call_sound effects g types ts n are is met =
        let o : Own = used (named g functions) n in
        let answer : Ground = σ.plain o.next in
        let equation : Equation = same o.ty (ty.Fun types effects (ty.Var o.next)) in
        let front : Each (IsMet σ) o.equations = each_front (IsMet σ) o.equations (equation ∷ []) met in
        let back : Each (IsMet σ) (equation ∷ []) = each_back (IsMet σ) o.equations (equation ∷ []) met in
        let becomes : under σ o.ty ≡ Some (function_of ts s answer) =
        met_back σ o.ty (ty.Fun types effects (ty.Var o.next)) (function_of ts s answer) (function_is σ types ts effects s (ty.Var o.next) answer is are (plain_is σ o.next)) back.0 in
        let found : (t : Ground) × (under σ o.ty ≡ Some t) × MayBe known_functions g t =
        used_sound σ functions known_functions g n same_functions front (subst (λ p. IsSome p) (sym becomes) refl) in
        let it : found.0 ≡ function_of ts s answer = same_some (sym found.1 ∙ becomes) in
        (answer, plain_is σ o.next, Rule.call (subst (λ t. MayBe known_functions g t) it found.2))
