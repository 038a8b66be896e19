-- Fields of values against rows: what is put in on both sides fits on both sides.
use Rattle.std.proofs.Common.{◌≡◌, ◌+◌, ℕ, Bool, true, false, refl, sym, ap, subst, ◌∙◌, List, [], ◌∷◌, ◌++◌, map, drop, length, Option, Some, None, if◌then◌else◌, arith, bytes_eq, find}
use Rattle.std.specs.Cmp.Lexicographic.{nat_list_cmp_total}
use Rattle.std.specs.FinMap as fin
use Rattle.std.specs.FinMap.Entries.{by_order}
use Rattle.std.specs.Option.{option_map}
use Rattle.std.specs.declared.cmp.Ordering.{Ordering}
use Rattle.std.specs.declared.cmp.Ordering.TheVariants.{Less, Equal, Greater}
use Rattle.lk_ast.specs.declared.expression.PartExpr.{PartExpr}
use Rattle.lk_ast.specs.declared.value.Field.{Field}
use Rattle.lk_ast.specs.declared.value.Value.{Value}
use Rattle.lk_operators.specs.Records as made
use Rattle.lk_operators.specs.Records.{Entries, fields_in_order, value_under}
use Rattle.lk_operators.specs.Values as values
use Rattle.lk_types.proofs.Parts.{same_some, mapped}
use Rattle.lk_types.specs.Rows.{Label, Row, label_order, no_fields, fields_of}
use Rattle.lk_types.specs.declared.ground.Ground.{Ground}
use Rattle.lk_types.specs.declared.ground.GroundField.{GroundField}
use Rattle.lk_typing.specs.Names.{Named}
use Rattle.lk_typing.specs.Types as types
use Rattle.lk_typing.specs.Typing.{label_of}
use Rattle.lk_sound.proofs.FieldRows.{Grows, stays, grows, as_fields, same_test, no_entries}
use Rattle.lk_fits.proofs.Fitting.{as_many}
use Rattle.lk_fits.specs.Values.{Fits, FitEach, one_more, FieldsFit, no_field, field}

abbrev as_values : List (Label × Value) → List Field
as_values es = map (λ e. values.field e.0 e.1) es

module _ (IsFun : ℕ → Ground → List Ground → Type 0) where
  -- ---- lists of fields

  pub fields_fit_both : {fs more : List Field} {gs others : List GroundField} → FieldsFit IsFun fs gs → FieldsFit IsFun more others → FieldsFit IsFun (fs ++ more) (gs ++ others)
  fields_fit_both no_field rest = rest
  fields_fit_both (field same fit fits) rest = field same fit (fields_fit_both fits rest)

  -- ---- maps

  put_fits : (l : Label) (v : Value) (t : Ground) (es : List (Label × Value)) (gs : Named Ground) → Fits IsFun v t → FieldsFit IsFun (as_values es) (as_fields gs)
      → FieldsFit IsFun (as_values (fin.put label_order l v es)) (as_fields (fin.put label_order l t gs))
  put_fits l v t [] [] fit fits = field refl fit no_field
  put_fits l v t [] (g ∷ gs) fit fits = elim fits [ ]
  put_fits l v t (e ∷ es) [] fit fits = elim fits [ ]
  put_fits l v t (e ∷ es) (g ∷ gs) fit (field same first rest) =
      subst (λ k. FieldsFit IsFun (as_values (fin.put label_order l v (e ∷ es))) (as_fields (by_order (label_order l k) ((l, t) ∷ g ∷ gs) ((g.0, t) ∷ gs) (g ∷ fin.put label_order l t gs)))) same
      (by_place (label_order l e.0) (put_fits l v t es gs fit rest))
    where
      by_place : (o : Ordering) → FieldsFit IsFun (as_values (fin.put label_order l v es)) (as_fields (fin.put label_order l t gs))
          → FieldsFit IsFun (as_values (by_order o ((l, v) ∷ e ∷ es) ((e.0, v) ∷ es) (e ∷ fin.put label_order l v es))) (as_fields (by_order o ((l, t) ∷ g ∷ gs) ((g.0, t) ∷ gs) (g ∷ fin.put label_order l t gs)))
      by_place Less behind = field refl fit (field same first rest)
      by_place Equal behind = field same fit rest
      by_place Greater behind = field same first behind

  pub empty_fits : FieldsFit IsFun (fields_in_order fin.empty) (fields_of no_fields)
  empty_fits =
      subst (λ es. FieldsFit IsFun (as_values es) (fields_of no_fields)) (sym (no_entries Value))
      (subst (λ gs. FieldsFit IsFun [] (as_fields gs)) (sym (no_entries Ground)) no_field)

  insert_fits : (m : Entries) (row : Row) (l : Label) (v : Value) (t : Ground) → Fits IsFun v t → FieldsFit IsFun (fields_in_order m) (fields_of row)
      → FieldsFit IsFun (fields_in_order (fin.insert m l v)) (fields_of (fin.insert row l t))
  insert_fits m row l v t fit fits =
      subst (λ es. FieldsFit IsFun (as_values es) (fields_of (fin.insert row l t))) (sym (fin.entries-insert nat_list_cmp_total m l v))
      (subst (λ gs. FieldsFit IsFun (as_values (fin.put label_order l v (fin.entries m))) (as_fields gs)) (sym (fin.entries-insert nat_list_cmp_total row l t))
      (put_fits l v t (fin.entries m) (fin.entries row) fit fits))

  -- fields put into a map, and their types put before the row that it fits
  pub all_fit : {row last : Row} {fields : Named Ground} → Grows row fields last → (m : Entries) (fs : List Field) → FieldsFit IsFun fs (as_fields fields)
      → FieldsFit IsFun (fields_in_order m) (fields_of row) → FieldsFit IsFun (fields_in_order (made.with_fields m fs)) (fields_of last)
  all_fit stays m fs no_field fits = fits
  all_fit (grows {row = row} {f = g} lacks inner) m fs (field {f = f} same fit more) fits =
      all_fit inner (fin.insert m f.label f.value) _ more
      (subst (λ l. FieldsFit IsFun (fields_in_order (fin.insert m f.label f.value)) (fields_of (fin.insert row l g.1))) same (insert_fits m row f.label f.value g.1 fit fits))

  -- ---- the value under a label

  pub record UnderLabel (l : Label) (t : Ground) (fs : List Field) : Type 0 where
    pub value : Value
    pub is : value_under l fs ≡ Some value
    pub fit : Fits IsFun value t

  pub found_under : (l : Label) (t : Ground) (fs : List Field) (gs : Named Ground) → FieldsFit IsFun fs (as_fields gs) → fin.find label_order l gs ≡ Some t → UnderLabel l t fs
  found_under l t fs [] fits is = let wrong : None ≡ Some t = is in cc
  found_under l t [] (g ∷ gs) fits is = elim fits [ ]
  found_under l t (f ∷ fs) (g ∷ gs) (field same fit rest) is =
      by_test (bytes_eq f.label l) refl
      (sym (ap (λ b. if b then Some g.1 else fin.find label_order l gs) (same_test l g.0 ∙ ap (λ k. bytes_eq k l) (sym same))) ∙ is)
      (found_under l t fs gs rest)
    where
      by_test : (b : Bool) → bytes_eq f.label l ≡ b → (if b then Some g.1 else fin.find label_order l gs) ≡ Some t
          → (fin.find label_order l gs ≡ Some t → UnderLabel l t fs) → UnderLabel l t (f ∷ fs)
      by_test true same_label is behind = record {
        value = f.value;
        is = ap (λ b. option_map (λ (f : Field). f.value) (if b then Some f else find (λ f. bytes_eq f.label l) fs)) same_label;
        fit = subst (Fits IsFun f.value) (same_some is) fit;
      }
      by_test false other is behind =
          let found : UnderLabel l t fs = behind is in record {
            value = found.value;
            is = ap (λ b. option_map (λ (f : Field). f.value) (if b then Some f else find (λ f. bytes_eq f.label l) fs)) other ∙ found.is;
            fit = found.fit;
          }

  -- ---- values under the labels of parts

  pub record AreLabelled (parts : List PartExpr) (vs : List Value) (fields : Named Ground) (left : List Ground) : Type 0 where
    pub fits : FieldsFit IsFun (made.labelled parts vs) (as_fields fields)
    pub behind : FitEach IsFun (drop (length parts) vs) left
    pub count : length vs ≡ length parts + length left

  none_labelled : (vs : List Value) (ts : List Ground) → FitEach IsFun vs ts → AreLabelled [] vs [] ts
  none_labelled [] ts fits = record { fits = no_field; behind = fits; count = as_many IsFun _ _ fits ∙ omega arith }
  none_labelled (v ∷ vs) ts fits = record { fits = no_field; behind = fits; count = as_many IsFun _ _ fits ∙ omega arith }

  pub labelled_fit : (parts : List PartExpr) (ts : List Ground) (vs : List Value) (fields : Named Ground) (left : List Ground)
      → types.labelled (map label_of parts) ts ≡ Some (fields, left) → FitEach IsFun vs ts → AreLabelled parts vs fields left
  labelled_fit [] ts vs fields left is fits =
      let same : ◌≡◌ {A = Named Ground × List Ground} ([], ts) (fields, left) = same_some is in
      subst (λ (x : Named Ground × List Ground). AreLabelled [] vs x.0 x.1) same (none_labelled vs ts fits)
  labelled_fit (part ∷ parts) [] vs fields left is fits = let wrong : ◌≡◌ {A = Option (Named Ground × List Ground)} None (Some (fields, left)) = is in cc
  labelled_fit (part ∷ parts) (t ∷ ts) vs fields left is (one_more {v = v} {values = more} fit fits) =
      let found : (x : Named Ground × List Ground) × (types.labelled (map label_of parts) ts ≡ Some x) × ((fields, left) ≡ ((label_of part, t) ∷ x.0, x.1)) =
      mapped (λ (x : Named Ground × List Ground). ((label_of part, t) ∷ x.0, x.1)) (types.labelled (map label_of parts) ts) (fields, left) is in
      let rest : AreLabelled parts more found.0.0 found.0.1 = labelled_fit parts ts more found.0.0 found.0.1 found.1 fits in
      let rest_count : length more ≡ length parts + length found.0.1 = rest.count in
      subst (λ (x : Named Ground × List Ground). AreLabelled (part ∷ parts) (v ∷ more) x.0 x.1) (sym found.2)
      (record { fits = field refl fit rest.fits; behind = rest.behind; count = omega arith })
