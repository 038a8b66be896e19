-- Records and tags: operations on them give values of the types that their rules say, and a value of a row of tags has one of
-- the tags before the row or one of those behind.
use Rattle.std.proofs.Common.{◌≡◌, ◌+◌, inl, inr, ◌⊎◌, refl, sym, ap, subst, ◌∙◌, ℕ, List, [], ◌∷◌, ◌++◌, map, drop, length, Option, Some, None, if◌then◌else◌, arith}
use Rattle.std.proofs.lemmas.Bool.{eq-eqb}
use Rattle.std.proofs.lemmas.List.{length-map, map-append}
use Rattle.std.specs.FinMap as fin
use Rattle.std.specs.Option.{option_or}
use Rattle.lk_ast.specs.declared.expression.PartExpr.{PartExpr}
use Rattle.lk_ast.specs.declared.value.Field.{Field}
use Rattle.lk_ast.specs.declared.value.Value.{Value}
use Rattle.lk_operators.specs.Outcomes.{given, only}
use Rattle.lk_operators.specs.Records as made
use Rattle.lk_operators.specs.Records.{entries_of, fields_in_order, value_under}
use Rattle.lk_operators.specs.Values.{fields as record_value, fields_in, tag_in}
use Rattle.lk_operators.specs.declared.outcome.Outcome.TheVariants as outcome
use Rattle.lk_types.proofs.Parts.{same_some}
use Rattle.lk_types.specs.Each.{OneOf}
use Rattle.lk_types.specs.Rows.{Label, Row, label_order, no_fields, fields_of}
use Rattle.lk_types.specs.declared.ground.Ground.{Ground}
use Rattle.lk_types.specs.declared.ground.GroundField.{GroundField}
use Rattle.lk_typing.specs.Names.{Named, named}
use Rattle.lk_typing.specs.Types.{record_of, variant_of, with_fields, labelled}
use Rattle.lk_typing.specs.Typing.{label_of}
use Rattle.lk_sound.proofs.FieldRows.{Grows, grows_to, grows_on, grows_itself, grown_length, as_fields, get_with, get_first, among_get, get_among, no_entries}
use Rattle.lk_sound.proofs.Shapes.{fields_shown, tag_shown}
use Rattle.lk_fits.proofs.Fitting.{as_many_fields}
use Rattle.lk_fits.proofs.FieldValues.{fields_fit_both, empty_fits, all_fit, UnderLabel, found_under, AreLabelled, labelled_fit}
use Rattle.lk_fits.proofs.Shapes.{IsRecord, fits_fields, IsTagged, fits_tags}
use Rattle.lk_fits.proofs.Results.{IsResult}
use Rattle.lk_fits.specs.Values.{Fits, FitEach, none_left, one_more, FieldsFit}

-- the row without fields has none
none_among : (g : GroundField) → OneOf (λ other. other ≡ g) (fields_of no_fields) → ⊥
none_among g one = subst (λ gs. OneOf (λ other. other ≡ g) (as_fields gs)) (no_entries Ground) one

module _ (IsFun : ℕ → Ground → List Ground → Type 0) where
  -- ---- records

  -- fields, each of which fits its type, make a record
  fields_sound : (fs : List Field) (fields : Named Ground) (row : Row) → Grows no_fields fields row → FieldsFit IsFun fs (as_fields fields) → IsResult IsFun (record_of row) (made.record_of fs)
  fields_sound fs fields row grown fits =
      let fit : FieldsFit IsFun (fields_in_order (entries_of fs)) (fields_of row) = all_fit IsFun grown fin.empty fs fits (empty_fits IsFun) in
      let own : fin.len (entries_of fs) ≡ length (fields_in_order (entries_of fs)) = fin.len-entries (entries_of fs) ∙ sym (length-map (fin.entries (entries_of fs)) _) in
      let wanted : length (fields_of row) ≡ fin.len row = length-map (fin.entries row) _ ∙ sym (fin.len-entries row) in
      let grows : fin.len row ≡ fin.len no_fields + length fields = grown_length grown in
      let none : fin.len no_fields ≡ 0 = fin.len-empty label_order Ground in
      let many : length fs ≡ length (as_fields fields) = as_many_fields IsFun _ _ fits in
      let alike : length (as_fields fields) ≡ length fields = length-map fields _ in
      let both : length (fields_in_order (entries_of fs)) ≡ length (fields_of row) = as_many_fields IsFun _ _ fit in
      let same : fin.len (entries_of fs) ≡ length fs = omega arith in
      subst (λ b. IsResult IsFun (record_of row) (if b then outcome.Value (record_value (fields_in_order (entries_of fs))) else outcome.NoRule)) (sym (eq-eqb (fin.len (entries_of fs)) (length fs) same))
      (Fits.fields (fields_in_order (entries_of fs)) (fields_of row) refl fit refl)

  -- `(l = e, ..)`
  pub record_sound : (parts : List PartExpr) (ts : List Ground) (vs : List Value) (fields : Named Ground) (row : Row)
      → labelled (map label_of parts) ts ≡ Some (fields, []) → with_fields fields no_fields ≡ Some row → FitEach IsFun vs ts
      → IsResult IsFun (record_of row) (made.new_record parts vs)
  record_sound parts ts vs fields row are is fits =
      let found : AreLabelled IsFun parts vs fields [] = labelled_fit IsFun parts ts vs fields [] are fits in
      let count : length vs ≡ length parts + length {A = Ground} [] = found.count in
      let same : length parts ≡ length vs = omega arith in
      subst (λ b. IsResult IsFun (record_of row) (if b then made.record_of (made.labelled parts vs) else outcome.NoRule)) (sym (eq-eqb (length parts) (length vs) same))
      (fields_sound (made.labelled parts vs) fields row (grows_to fields no_fields row is) found.fits)

  -- the one value behind those of the parts
  record OneLeft (vs : List Value) (t : Ground) : Type 0 where
    value : Value
    is : vs ≡ value ∷ []
    fit : Fits IsFun value t

  one_left : (vs : List Value) (t : Ground) → FitEach IsFun vs (t ∷ []) → OneLeft vs t
  one_left vs t (one_more {v = v} fit none_left) = record { value = v; is = refl; fit = fit }

  -- `(l = e, .. | r)`
  pub extend_sound : (parts : List PartExpr) (ts : List Ground) (vs : List Value) (fields : Named Ground) (other row : Row)
      → labelled (map label_of parts) ts ≡ Some (fields, record_of other ∷ []) → with_fields fields other ≡ Some row → FitEach IsFun vs ts
      → IsResult IsFun (record_of row) (made.extended parts vs)
  extend_sound parts ts vs fields other row are is fits =
      let found : AreLabelled IsFun parts vs fields (record_of other ∷ []) = labelled_fit IsFun parts ts vs fields (record_of other ∷ []) are fits in
      let left : OneLeft (drop (length parts) vs) (record_of other) = one_left (drop (length parts) vs) (record_of other) found.behind in
      let inner : IsRecord IsFun left.value (fields_of other) = fits_fields IsFun left.value (fields_of other) left.fit in
      let shown : fields_in left.value ≡ Some inner.fs = ap fields_in inner.is ∙ fields_shown inner.fs in
      let same : made.extended parts vs ≡ made.record_of (inner.fs ++ made.labelled parts vs) =
      ap (λ vs'. given (λ r. given (λ fs. made.record_of (fs ++ made.labelled parts vs)) (fields_in r)) (only vs')) left.is
      ∙ ap (given (λ fs. made.record_of (fs ++ made.labelled parts vs))) shown in
      let both : FieldsFit IsFun (inner.fs ++ made.labelled parts vs) (as_fields (fin.entries other ++ fields)) =
      subst (FieldsFit IsFun (inner.fs ++ made.labelled parts vs)) (sym (map-append _ (fin.entries other) fields)) (fields_fit_both IsFun inner.fit found.fits) in
      subst (IsResult IsFun (record_of row)) (sym same)
      (fields_sound (inner.fs ++ made.labelled parts vs) (fin.entries other ++ fields) row (grows_on (grows_itself other) (grows_to fields other row is)) both)

  -- `e.l`
  pub project_sound : (l : Label) (a : Ground) (other row : Row) (v : Value) → with_fields ((l, a) ∷ []) other ≡ Some row → Fits IsFun v (record_of row) → IsResult IsFun a (made.project l v)
  project_sound l a other row v is fit =
      let inner : IsRecord IsFun v (fields_of row) = fits_fields IsFun v (fields_of row) fit in
      let there : fin.find label_order l (fin.entries row) ≡ Some a = sym (fin.get-entries row l) ∙ get_first l a other row is in
      let found : UnderLabel IsFun l a inner.fs = found_under IsFun l a inner.fs (fin.entries row) inner.fit there in
      let same : made.project l v ≡ outcome.Value found.value =
      ap (given (λ fs. given outcome.Value (value_under l fs))) (ap fields_in inner.is ∙ fields_shown inner.fs) ∙ ap (given outcome.Value) found.is in
      subst (IsResult IsFun a) (sym same) found.fit

  -- ---- tags

  -- `T(e)`
  pub tag_sound : (l : Label) (t : Ground) (other row : Row) (v : Value) → with_fields ((l, t) ∷ []) other ≡ Some row → Fits IsFun v t → IsResult IsFun (variant_of row) (made.tag l v)
  tag_sound l t other row v is fit =
      Fits.tag v (record { label = l; ty = t }) (fields_of row) refl (get_among row l t (get_first l t other row is)) fit refl

module _ (IsFun : ℕ → Ground → List Ground → Type 0) where
  -- What a `switch` finds: a tag and the value with it, and the type of that value among these tags.
  pub record IsCase (tags : Named Ground) (v : Value) : Type 0 where
    pub label : Label
    pub held : Value
    pub ty : Ground
    pub shows : tag_in v ≡ Some (label, held)
    pub there : named label tags ≡ Some ty
    pub fit : Fits IsFun held ty

  -- a tag that isn't among these, of the row behind them
  pub record IsOther (tags : Named Ground) (other : Row) (v : Value) : Type 0 where
    pub label : Label
    pub held : Value
    pub shows : tag_in v ≡ Some (label, held)
    pub missing : named label tags ≡ None
    pub fit : Fits IsFun v (variant_of other)

  tag_by : (tags : Named Ground) (other row : Row) (v : Value) (tagged_so : IsTagged IsFun v (fields_of row)) (o : Option Ground) → named tagged_so.g.label tags ≡ o
      → option_or o (fin.get other tagged_so.g.label) ≡ Some tagged_so.g.ty → IsCase tags v ⊎ IsOther tags other v
  tag_by tags other row v t (Some a) there is =
      inl (record { label = t.g.label; held = t.held; ty = a; shows = ap tag_in t.is ∙ tag_shown t.g.label t.held; there = there; fit = subst (Fits IsFun t.held) (sym (same_some is)) t.fit })
  tag_by tags other row v t None there is =
      inr (record {
        label = t.g.label;
        held = t.held;
        shows = ap tag_in t.is ∙ tag_shown t.g.label t.held;
        missing = there;
        fit = Fits.tag t.held t.g (fields_of other) t.is (get_among other t.g.label t.g.ty is) t.fit refl;
      })

  -- a value of tags before a row has one of these or one of the row's
  pub tag_split : (tags : Named Ground) (other row : Row) (v : Value) → with_fields tags other ≡ Some row → Fits IsFun v (variant_of row) → IsCase tags v ⊎ IsOther tags other v
  tag_split tags other row v is fit =
      let t : IsTagged IsFun v (fields_of row) = fits_tags IsFun v (fields_of row) fit in
      tag_by tags other row v t (named t.g.label tags) refl (sym (get_with t.g.label tags other row is) ∙ among_get row t.g t.one)

  -- a value of these tags alone has one of them
  pub tag_found : (tags : Named Ground) (row : Row) (v : Value) → with_fields tags no_fields ≡ Some row → Fits IsFun v (variant_of row) → IsCase tags v
  tag_found tags row v is fit = by_case (tag_split tags no_fields row v is fit)
    where
      by_case : IsCase tags v ⊎ IsOther tags no_fields v → IsCase tags v
      by_case (inl one) = one
      by_case (inr other) = let t : IsTagged IsFun v (fields_of no_fields) = fits_tags IsFun v (fields_of no_fields) other.fit in absurd (none_among t.g t.one)
