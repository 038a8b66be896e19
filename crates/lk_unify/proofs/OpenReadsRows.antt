-- Values that are ground are read: where fields and the end of two rows are read, the rows are.
use Rattle.std.proofs.Common.{◌≡◌, ℕ, Bool, true, false, List, [], ◌∷◌, refl, sym, ◌∙◌, ap, subst, Option, Some, None, cond}
use Rattle.std.specs.Cmp.Lexicographic.{bytes_decides}
use Rattle.std.specs.FinMap as fin
use Rattle.std.specs.Option.{option_map}
use Rattle.std.specs.Prelude.{is_some, not, ◌||◌, if◌then◌else◌}
use Rattle.std.specs.Str.{bytes_eq}
use Rattle.lk_types.specs.Each.{Each}
use Rattle.lk_types.specs.Grounding.{Grounding, row_under, row_tail, effect_tail, effects_under}
use Rattle.lk_types.specs.Rows.{Label, Row, EffectSet}
use Rattle.lk_types.specs.TypeText.{effect_word}
use Rattle.lk_types.specs.declared.ground.Ground.{Ground}
use Rattle.lk_types.specs.declared.ty.Effect.{Effect}
use Rattle.lk_types.specs.declared.ty.RowTail.TheVariants.{Closed}
use Rattle.lk_types.specs.declared.ty.Ty.{Ty}
use Rattle.lk_types.proofs.LabelMaps.{same_maps, tied_labels}
use Rattle.lk_unify.proofs.OpenEffectRows.{IsNoEffect, unit_if, at_effect, at_other, is_effect_row}
use Rattle.lk_unify.proofs.OpenEffectSets.{IsSetAt, set_reads, set_read, lower}
use Rattle.lk_unify.proofs.OpenGround.{get-as_row}
use Rattle.lk_unify.proofs.OpenReads.{Reads, row_once}
use Rattle.lk_unify.proofs.OpenRows.{IsReadAt, row_reads, row_read}
use Rattle.lk_arena.specs.Kinds.{OfTypes, OfFields, OfEffects, IsEffectName}
use Rattle.lk_arena.specs.Openings.{OpenEffects, row_type, effects_type, unit_type, as_type, as_row, as_effects}
use Rattle.lk_arena.specs.Shapes.{found_at, plain_of, value_at, IsPlain, IsRowOf}
use Rattle.lk_arena.specs.Values.{Value, Plain, OfRow, effect_row}
use Rattle.lk_arena.specs.declared.node.Field.{Field}

-- ---- a field that is found

-- what holds of each field holds of the one that is found
found_prop : (P : Label → ℕ → Type 0) (fs : List Field) (l : Label) (k : ℕ) → Each (λ f. P f.label f.node) fs → found_at fs l ≡ Some k → P l k
found_prop P [] l k e is = (let f : None ≡ Some k = is in cc)
found_prop P (f ∷ fs) l k e is = by_test (bytes_eq l f.label) refl (λ h. found_prop P fs l k e.1 h) is
  where
    some_once : {m n : ℕ} → Some m ≡ Some n → m ≡ n
    some_once e = cc

    by_test : (b : Bool) → bytes_eq l f.label ≡ b → (found_at fs l ≡ Some k → P l k) → (if b then Some f.node else found_at fs l) ≡ Some k → P l k
    by_test true same below h = subst (λ l. P l k) (sym ((bytes_decides l f.label).0 same)) (subst (P f.label) (some_once h) e.0)
    by_test false same below h = below h

-- ---- rows of types

type_at : (x : Value) (t : Ty) → plain_of x ≡ Some t → x ≡ Plain t
type_at (Plain s) t e = (let h : s ≡ t = cc in ap Plain h)
type_at (OfRow m) t e = (let f : None ≡ Some t = e in cc)

mapped : (o : Option Ground) (t : Ty) → option_map as_type o ≡ Some t → (g : Ground) × (o ≡ Some g) × (t ≡ as_type g)
mapped None t e = (let f : None ≡ Some t = e in cc)
mapped (Some g) t e = (g, refl, (let h : t ≡ as_type g = cc in h))

module _ (τ : Grounding) (u v : ℕ → Value) (fs : List Field) (a b x y : Value) (left : IsRowOf fs u a x) (right : IsRowOf fs v b y) where
  module _ (m : Row) (is : y ≡ OfRow (as_row m)) where
    whole : right.row ≡ as_row m
    whole = row_once (sym right.row_is ∙ is)

    lacking : Label → Bool
    lacking l = not (is_some (found_at fs l))

    rest : Row
    rest = fin.retain_keys m lacking

    at_rest : (l : Label) (o : Option ℕ) → found_at fs l ≡ o → fin.get rest l ≡ cond (not (is_some o)) (fin.get m l) None
    unfolding lacking rest
    at_rest l o e =
        fin.get-retain_keys m lacking l (λ k t. ap lacking (sym (tied_labels l k t)))
        ∙ ap (λ o. cond (not (is_some o)) (fin.get m l) None) e

    -- what stands at a label of the row
    at_whole : (l : Label) (o : Option ℕ) → found_at fs l ≡ o → value_at v o (fin.get right.tail.fields l) ≡ option_map as_type (fin.get m l)
    at_whole l o e = ap (λ o. value_at v o (fin.get right.tail.fields l)) (sym e) ∙ sym (right.at l) ∙ ap (λ r. fin.get r.fields l) whole ∙ get-as_row m l

    at_end : (l : Label) (o : Option ℕ) → found_at fs l ≡ o → fin.get right.tail.fields l ≡ option_map as_type (fin.get rest l)
    at_end l None e = at_whole l None e ∙ ap (option_map as_type) (sym (at_rest l None e))
    at_end l (Some k) e = found_prop (λ l k. fin.get right.tail.fields l ≡ None) fs l k right.fresh e ∙ ap (option_map as_type) (sym (at_rest l (Some k) e))

    -- the row behind the fields has the rest
    end_is : right.tail ≡ as_row rest
    end_is =
        let fields : right.tail.fields ≡ (as_row rest).fields = same_maps right.tail.fields (as_row rest).fields (λ l. at_end l (found_at fs l) refl ∙ sym (get-as_row rest l)) in
        let ends : right.tail.tail ≡ Closed = sym right.same_end ∙ ap (λ r. r.tail) whole in
        λ i. record { fields = fields i; tail = ends i }

    module _ (nodes : Each (λ f. Reads τ OfTypes (u f.node) (v f.node)) fs) (under_rest : row_under τ (row_type left.tail) ≡ Some rest) where
      base : Row
      base = row_tail τ left.tail.tail

      end_reads : (l : Label) → IsReadAt τ (fin.get left.tail.fields l) (fin.get base l) (fin.get rest l)
      unfolding base
      end_reads = row_reads τ left.tail rest under_rest

      at_found : (l : Label) (k : ℕ) → found_at fs l ≡ Some k → IsReadAt τ (plain_of (u k)) (fin.get base l) (fin.get m l)
      at_found l k e =
          let plain = found_prop (λ l k. IsPlain (v k)) fs l k right.plain e in
          let g = mapped (fin.get m l) plain.0 (sym (at_whole l (Some k) e) ∙ ap plain_of plain.1) in
          let read = found_prop (λ l k. Reads τ OfTypes (u k) (v k)) fs l k nodes e g.0 (plain.1 ∙ ap Plain g.2) in
          let none : IsReadAt τ None (fin.get base l) None =
          subst (λ o. IsReadAt τ o (fin.get base l) None) (found_prop (λ l k. fin.get left.tail.fields l ≡ None) fs l k left.fresh e)
          (subst (IsReadAt τ (fin.get left.tail.fields l) (fin.get base l)) (at_rest l (Some k) e) (end_reads l)) in
          subst (λ o. IsReadAt τ o (fin.get base l) (fin.get m l)) (sym (ap plain_of read.1)) (g.0, sym none, read.2, g.1)

      at_label : (l : Label) (o : Option ℕ) → found_at fs l ≡ o → IsReadAt τ (value_at u o (fin.get left.tail.fields l)) (fin.get base l) (fin.get m l)
      at_label l (Some k) e = at_found l k e
      at_label l None e = subst (IsReadAt τ (fin.get left.tail.fields l) (fin.get base l)) (at_rest l None e) (end_reads l)

      whole_read : row_under τ (row_type left.row) ≡ Some m
      unfolding base
      whole_read =
          row_read τ left.row m (λ l.
          subst (λ t. IsReadAt τ (fin.get left.row.fields l) (fin.get (row_tail τ t) l) (fin.get m l)) (sym left.same_end)
          (subst (λ o. IsReadAt τ o (fin.get (row_tail τ left.tail.tail) l) (fin.get m l)) (sym (left.at l)) (at_label l (found_at fs l) refl)))

  -- a row of types whose fields and end are read is read
  pub fields_before_reads : Each (λ f. Reads τ OfTypes (u f.node) (v f.node)) fs → Reads τ OfFields a b → Reads τ OfFields x y
  fields_before_reads nodes ends m is =
      let r = ends (rest m is) (right.tail_is ∙ ap OfRow (end_is m is)) in
      let same : left.tail ≡ r.0 = row_once (sym left.tail_is ∙ r.1) in
      (left.row, left.row_is, whole_read m is nodes (ap (λ r. row_under τ (row_type r)) same ∙ r.2))

-- ---- rows of effects

unit_true : (b : Bool) → unit_if b ≡ Some unit_type → b ≡ true
unit_true true e = refl
unit_true false e = (let f : None ≡ Some unit_type = e in cc)

module _ (τ : Grounding) (u v : ℕ → Value) (fs : List Field) (a b x y : Value) (left : IsRowOf fs u a x) (right : IsRowOf fs v b y) (names : Each (λ f. IsEffectName f.label) fs)
    (units : Each (λ f. u f.node ≡ Plain unit_type) fs) (units' : Each (λ f. v f.node ≡ Plain unit_type) fs) where
  found : Effect → Bool
  found e = is_some (found_at fs (effect_word e))

  module _ (s : EffectSet) (is : y ≡ OfRow (effect_row (as_effects s))) where
    row_whole : right.row ≡ effect_row (as_effects s)
    row_whole = row_once (sym right.row_is ∙ is)

    left_over : EffectSet
    left_over e = if found e then false else s e

    over : (e : Effect) (o : Option ℕ) → found_at fs (effect_word e) ≡ o → left_over e ≡ (if is_some o then false else s e)
    unfolding left_over found
    over e o h = ap (λ o. if is_some o then false else s e) h

    right_at : (l : Label) (o : Option ℕ) → found_at fs l ≡ o → value_at v o (fin.get right.tail.fields l) ≡ fin.get (effect_row (as_effects s)).fields l
    right_at l o h = ap (λ o. value_at v o (fin.get right.tail.fields l)) (sym h) ∙ sym (right.at l) ∙ ap (λ r. fin.get r.fields l) row_whole

    end_at : (e : Effect) (o : Option ℕ) → found_at fs (effect_word e) ≡ o → fin.get right.tail.fields (effect_word e) ≡ unit_if (left_over e)
    end_at e None h = right_at (effect_word e) None h ∙ at_effect (as_effects s) e ∙ ap unit_if (sym (over e None h))
    end_at e (Some k) h = found_prop (λ l k. fin.get right.tail.fields l ≡ None) fs (effect_word e) k right.fresh h ∙ ap unit_if (sym (over e (Some k) h))

    end_other : (l : Label) → IsNoEffect l → (o : Option ℕ) → found_at fs l ≡ o → fin.get right.tail.fields l ≡ None
    end_other l n None h = right_at l None h ∙ at_other (as_effects s) l n
    end_other l n (Some k) h = found_prop (λ l k. fin.get right.tail.fields l ≡ None) fs l k right.fresh h

    end_effects : right.tail ≡ effect_row (as_effects left_over)
    end_effects =
        is_effect_row right.tail (as_effects left_over) (sym right.same_end ∙ ap (λ r. r.tail) row_whole) (λ e. end_at e (found_at fs (effect_word e)) refl)
        (λ l n. end_other l n (found_at fs l) refl)

    module _ (r : OpenEffects) (tail_is : left.tail ≡ effect_row r) (under_rest : effects_under τ (effects_type r) ≡ Some left_over) where
      more : OpenEffects
      more = record { labels = λ e. found e || r.labels e; tail = r.tail }

      more_at : (e : Effect) (o : Option ℕ) → found_at fs (effect_word e) ≡ o → more.labels e ≡ (is_some o || r.labels e)
      unfolding more found
      more_at e o h = ap (λ o. is_some o || r.labels e) h

      left_at : (l : Label) (o : Option ℕ) → found_at fs l ≡ o → fin.get left.row.fields l ≡ value_at u o (fin.get (effect_row r).fields l)
      left_at l o h = left.at l ∙ ap (λ o. value_at u o (fin.get left.tail.fields l)) h ∙ ap (λ m. value_at u o (fin.get m.fields l)) tail_is

      row_at : (e : Effect) (o : Option ℕ) → found_at fs (effect_word e) ≡ o → fin.get left.row.fields (effect_word e) ≡ unit_if (more.labels e)
      row_at e None h = left_at (effect_word e) None h ∙ at_effect r e ∙ ap unit_if (sym (more_at e None h))
      row_at e (Some k) h =
          left_at (effect_word e) (Some k) h ∙ ap plain_of (found_prop (λ l k. u k ≡ Plain unit_type) fs (effect_word e) k units h) ∙ ap unit_if (sym (more_at e (Some k) h))

      row_other : (l : Label) → IsNoEffect l → (o : Option ℕ) → found_at fs l ≡ o → fin.get left.row.fields l ≡ None
      row_other l n None h = left_at l None h ∙ at_other r l n
      row_other l n (Some k) h = (let name = found_prop (λ l k. IsEffectName l) fs l k names h in absurd (n name.0 name.1))

      ends_same : left.row.tail ≡ more.tail
      unfolding more
      ends_same = left.same_end ∙ ap (λ m. m.tail) tail_is

      row_effects : left.row ≡ effect_row more
      row_effects = is_effect_row left.row more ends_same (λ e. row_at e (found_at fs (effect_word e)) refl) (λ l n. row_other l n (found_at fs l) refl)

      set_at : (e : Effect) (o : Option ℕ) → found_at fs (effect_word e) ≡ o → IsSetAt (is_some o || r.labels e) (effect_tail τ r.tail e) (s e)
      set_at e None h = subst (IsSetAt (r.labels e) (effect_tail τ r.tail e)) (over e None h) (set_reads τ r left_over under_rest e)
      set_at e (Some k) h = (
        lower (r.labels e) (effect_tail τ r.tail e) (left_over e) (set_reads τ r left_over under_rest e) (over e (Some k) h),
        unit_true (s e) (sym (at_effect (as_effects s) e) ∙ sym (right_at (effect_word e) (Some k) h) ∙ ap plain_of (found_prop (λ l k. v k ≡ Plain unit_type) fs (effect_word e) k units' h)),
      )

      more_read : effects_under τ (effects_type more) ≡ Some s
      unfolding more
      more_read =
          set_read τ more s (λ e.
          subst (λ b. IsSetAt b (effect_tail τ r.tail e) (s e)) (sym (more_at e (found_at fs (effect_word e)) refl)) (set_at e (found_at fs (effect_word e)) refl))

  -- a row of effects whose end is read is read
  pub effects_before_reads : Reads τ OfEffects a b → Reads τ OfEffects x y
  effects_before_reads ends s is =
      let r = ends (left_over s is) (right.tail_is ∙ ap OfRow (end_effects s is)) in
      let same : left.tail ≡ effect_row r.0 = row_once (sym left.tail_is ∙ r.1) in
      (more s is r.0 same r.2, left.row_is ∙ ap OfRow (row_effects s is r.0 same r.2), more_read s is r.0 same r.2)
