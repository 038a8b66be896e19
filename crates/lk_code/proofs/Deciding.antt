-- What loops of code find: a value, a field, a frame or a label more.
use Rattle.std.proofs.Common.{◌≡◌, ◌↔◌, inl, inr, refl, sym, ap, subst, ◌∙◌, ℕ, ◌+◌, ◌<◌, ◌≤◌, true, false, IsTrue, IfSome, ◌-◌, List, [], ◌∷◌, Option, Some, None, drop, length, slice_index_or, slice_get, arith}
use Rattle.std.proofs.lemmas.Bool.{cases_lt}
use Rattle.std.proofs.lemmas.List.{drop_all, drop_more, length-drop}
use Rattle.std.proofs.lemmas.Option.{slice_get_read, slice_get_within}
use Rattle.std.specs.Prelude.{◌⊎◌, Bool}
use Rattle.lk_ast.specs.declared.place.Loc.{Loc}
use Rattle.lk_ast.specs.declared.value.Field.{Field}
use Rattle.lk_ast.specs.declared.value.Value.{Value}
use Rattle.lk_fits.proofs.Fitting.{as_many, as_many_fields, first_field, first_of_all, first_of_each}
use Rattle.lk_fits.specs.Values.{Fits, AllFit, FitEach, FieldsFit, none, more, none_left, one_more, no_field, field}
use Rattle.lk_types.proofs.Parts.{same_some}
use Rattle.lk_types.specs.declared.ground.Ground.{Ground}
use Rattle.lk_types.specs.declared.ground.GroundField.{GroundField}
use Rattle.lk_code.specs.Chains.{AreChained, ChainFits}
use Rattle.lk_code.specs.Running.{HasCode, LabelsRun, is_at}
use Rattle.lk_code.specs.Tables.{first_frame, frame_info, fun_info}
use Rattle.lk_code.specs.declared.infos.FrameInfo.{FrameInfo}
use Rattle.lk_code.specs.declared.infos.FunInfo.{FunInfo}
use Rattle.lk_code.specs.declared.tables.CodeTables.{CodeTables}
use Rattle.lk_code.specs.declared.tables.Contents.{Contents}
use Rattle.lk_code.specs.declared.tables.Frame.{Frame}

pub not_true : IsTrue false → ⊥
not_true is = let wrong : false ≡ true = is in cc

-- what is left of a list begins with the element in turn
next_is : {A : Type 0} (xs : List A) (n : ℕ) (x : A) → n < length xs → x ≡ slice_index_or xs n x → drop n xs ≡ x ∷ drop (n + 1) xs
next_is xs n x within is = drop_more xs n x within ∙ ap (λ y. y ∷ drop (n + 1) xs) (sym is)

pub refused : {P : Type 0} → (P → ⊥) → IsTrue false ↔ P
refused wrong = (λ is. absurd (not_true is), λ p. absurd (wrong p))

-- ---- values of one type

module _ (IsFun : ℕ → Ground → List Ground → Type 0) (values : List Value) (t : Ground) (i : ℕ) (so_far : AllFit IsFun (drop i values) t ↔ AllFit IsFun values t) where
  abbrev All : List Value → Type 0
  All xs = AllFit IsFun xs t

  pub all_more : (v : Value) → i < length values → v ≡ slice_index_or values i v → Fits IsFun v t → All (drop (i + 1) values) ↔ All values
  all_more v within is fits =
      let next = next_is values i v within is in
      (λ fit. so_far.0 (subst All (sym next) (more fits fit)), λ fit. (first_of_all IsFun (subst All next (so_far.1 fit))).1)

  pub all_refused : (v : Value) → i < length values → v ≡ slice_index_or values i v → (Fits IsFun v t → ⊥) → IsTrue false ↔ All values
  all_refused v within is wrong = refused (λ fit. wrong (first_of_all IsFun (subst All (next_is values i v within is) (so_far.1 fit))).0)

  pub all_done : length values ≤ i → IsTrue true ↔ All values
  all_done end = (λ _. so_far.0 (subst All (sym (drop_all i values end)) none), λ _. refl)

-- ---- values of types one by one

module _ (IsFun : ℕ → Ground → List Ground → Type 0) (values : List Value) (ts : List Ground) where
  pub other_lengths : (length values ≡ length ts → ⊥) → IsTrue false ↔ FitEach IsFun values ts
  other_lengths other = refused (λ fit. other (as_many IsFun values ts fit))

  module _ (i : ℕ) (so_far : FitEach IsFun (drop i values) (drop i ts) ↔ FitEach IsFun values ts) where
    both_next : (v : Value) (t : Ground) → i < length values → v ≡ slice_index_or values i v → i < length ts → t ≡ slice_index_or ts i t → FitEach IsFun (drop i values) (drop i ts) ≡ FitEach IsFun (v ∷ drop (i + 1) values) (t ∷ drop (i + 1) ts)
    both_next v t within is long type_is = λ k. FitEach IsFun (next_is values i v within is k) (next_is ts i t long type_is k)

    pub each_more : (v : Value) (t : Ground) → i < length values → v ≡ slice_index_or values i v → i < length ts → t ≡ slice_index_or ts i t → Fits IsFun v t → FitEach IsFun (drop (i + 1) values) (drop (i + 1) ts) ↔ FitEach IsFun values ts
    each_more v t within is long type_is fits =
        let next = both_next v t within is long type_is in
        (λ fit. so_far.0 (subst (λ A. A) (sym next) (one_more fits fit)), λ fit. (first_of_each IsFun (subst (λ A. A) next (so_far.1 fit))).1)

    pub each_refused : (v : Value) (t : Ground) → i < length values → v ≡ slice_index_or values i v → i < length ts → t ≡ slice_index_or ts i t → (Fits IsFun v t → ⊥) → IsTrue false ↔ FitEach IsFun values ts
    each_refused v t within is long type_is wrong = refused (λ fit. wrong (first_of_each IsFun (subst (λ A. A) (both_next v t within is long type_is) (so_far.1 fit))).0)

    pub each_done : length values ≤ i → length ts ≤ i → IsTrue true ↔ FitEach IsFun values ts
    each_done end types_end = (λ _. so_far.0 (subst (λ A. A) (λ k. FitEach IsFun (sym (drop_all i values end) k) (sym (drop_all i ts types_end) k)) none_left), λ _. refl)

-- ---- fields one by one

module _ (IsFun : ℕ → Ground → List Ground → Type 0) (fs : List Field) (gs : List GroundField) where
  pub other_fields : (length fs ≡ length gs → ⊥) → IsTrue false ↔ FieldsFit IsFun fs gs
  other_fields other = refused (λ fit. other (as_many_fields IsFun fs gs fit))

  module _ (i : ℕ) (so_far : FieldsFit IsFun (drop i fs) (drop i gs) ↔ FieldsFit IsFun fs gs) where
    fields_next : (f : Field) (g : GroundField) → i < length fs → f ≡ slice_index_or fs i f → i < length gs → g ≡ slice_index_or gs i g → FieldsFit IsFun (drop i fs) (drop i gs) ≡ FieldsFit IsFun (f ∷ drop (i + 1) fs) (g ∷ drop (i + 1) gs)
    fields_next f g within is long type_is = λ k. FieldsFit IsFun (next_is fs i f within is k) (next_is gs i g long type_is k)

    pub field_more : (f : Field) (g : GroundField) → i < length fs → f ≡ slice_index_or fs i f → i < length gs → g ≡ slice_index_or gs i g → f.label ≡ g.label → Fits IsFun f.value g.ty
        → FieldsFit IsFun (drop (i + 1) fs) (drop (i + 1) gs) ↔ FieldsFit IsFun fs gs
    field_more f g within is long type_is same fits =
        let next = fields_next f g within is long type_is in
        (λ fit. so_far.0 (subst (λ A. A) (sym next) (field same fits fit)), λ fit. (first_field IsFun (subst (λ A. A) next (so_far.1 fit))).2)

    pub field_refused : (f : Field) (g : GroundField) → i < length fs → f ≡ slice_index_or fs i f → i < length gs → g ≡ slice_index_or gs i g → (f.label ≡ g.label → Fits IsFun f.value g.ty → ⊥) → IsTrue false ↔ FieldsFit IsFun fs gs
    field_refused f g within is long type_is wrong =
        refused (λ fit. let first = first_field IsFun (subst (λ A. A) (fields_next f g within is long type_is) (so_far.1 fit)) in wrong first.0 first.1)

    pub fields_done : length fs ≤ i → length gs ≤ i → IsTrue true ↔ FieldsFit IsFun fs gs
    fields_done end types_end = (λ _. so_far.0 (subst (λ A. A) (λ k. FieldsFit IsFun (sym (drop_all i fs end) k) (sym (drop_all i gs types_end) k)) no_field), λ _. refl)

-- ---- frames behind one another

module _ (c : CodeTables) where
  abbrev Wants : FrameInfo → Option Ground → Type 0
  Wants info wanted = IfSome wanted (λ t. info.hole ≡ t)

  -- a frame of which this is told, before others that it goes on with
  put_first : (f : Frame) (g : Frame) (gs : List Frame) (info : FrameInfo) (wanted : Option Ground) → frame_info c f.number ≡ Some info → Wants info wanted → first_frame c ≤ f.number → AreChained c (g ∷ gs) info.result → ChainFits c (f ∷ g ∷ gs) wanted
  put_first f g gs info None is wants no_return chained = (info.hole, (info, is, refl, no_return, chained))
  put_first f g gs info (Some t) is wants no_return chained = (info, is, wants, no_return, chained)

  take_first : (f : Frame) (g : Frame) (gs : List Frame) (info : FrameInfo) (wanted : Option Ground) → frame_info c f.number ≡ Some info → ChainFits c (f ∷ g ∷ gs) wanted → AreChained c (g ∷ gs) info.result
  take_first f g gs info None is chained = subst (λ (it : FrameInfo). AreChained c (g ∷ gs) it.result) (same_some (sym chained.1.1 ∙ is)) chained.1.4
  take_first f g gs info (Some t) is chained = subst (λ (it : FrameInfo). AreChained c (g ∷ gs) it.result) (same_some (sym chained.1 ∙ is)) chained.4

  goes_behind : (f : Frame) (fs : List Frame) (info : FrameInfo) (wanted : Option Ground) → frame_info c f.number ≡ Some info → Wants info wanted → (fs ≡ [] → ⊥) → first_frame c ≤ f.number → ChainFits c (f ∷ fs) wanted ↔ AreChained c fs info.result
  goes_behind f [] info wanted is wants some no_return = absurd (some refl)
  goes_behind f (g ∷ gs) info wanted is wants some no_return = (take_first f g gs info wanted is, put_first f g gs info wanted is wants no_return)

  -- the last one is a return
  put_last : (f : Frame) (info : FrameInfo) (wanted : Option Ground) → frame_info c f.number ≡ Some info → Wants info wanted → f.number < first_frame c → ChainFits c (f ∷ []) wanted
  put_last f info None is wants return = (info.hole, (info, is, refl, return))
  put_last f info (Some t) is wants return = (info, is, wants, return)

  is_return : (f : Frame) (wanted : Option Ground) → ChainFits c (f ∷ []) wanted → f.number < first_frame c
  is_return f None chained = chained.1.3
  is_return f (Some t) chained = chained.3

  -- another one before others isn't
  no_return : (f : Frame) (fs : List Frame) (wanted : Option Ground) → (fs ≡ [] → ⊥) → ChainFits c (f ∷ fs) wanted → first_frame c ≤ f.number
  no_return f [] wanted some chained = absurd (some refl)
  no_return f (g ∷ gs) None some chained = chained.1.3
  no_return f (g ∷ gs) (Some t) some chained = chained.3

  module _ {P : Type 0} (frames : List Frame) (i : ℕ) (wanted : Option Ground) (so_far : ChainFits c (drop i frames) wanted ↔ P) (f : Frame) (within : i < length frames) (f_is : f ≡ slice_index_or frames i f) where
    abbrev rest : List Frame
    rest = drop (i + 1) frames

    first_of : P → ChainFits c (f ∷ rest) wanted
    first_of p = subst (λ fs. ChainFits c fs wanted) (next_is frames i f within f_is) (so_far.1 p)

    begins : ChainFits c (f ∷ rest) wanted → P
    begins chained = so_far.0 (subst (λ fs. ChainFits c fs wanted) (sym (next_is frames i f within f_is)) chained)

    module _ (info : FrameInfo) (is : frame_info c f.number ≡ Some info) where
      module _ (wants : Wants info wanted) where
        pub chain_last : (b : Bool) → length frames ≤ i + 1 → (IsTrue b ↔ (f.number < first_frame c)) → IsTrue b ↔ P
        chain_last b end tests =
            let over : rest ≡ [] = drop_all (i + 1) frames end in
            (λ yes. begins (subst (λ fs. ChainFits c (f ∷ fs) wanted) (sym over) (put_last f info wanted is wants (tests.0 yes))), λ p. tests.1 (is_return f wanted (subst (λ fs. ChainFits c (f ∷ fs) wanted) over (first_of p))))

        module _ (before : i + 1 ≡ length frames → ⊥) where
          some : rest ≡ [] → ⊥
          some over = let left : length frames - (i + 1) ≡ 0 = sym (length-drop (i + 1) frames) ∙ ap length over in before (omega (arith, left, within))

          pub chain_more : ((f.number < first_frame c) → ⊥) → AreChained c rest info.result ↔ P
          chain_more later = let goes = goes_behind f rest info wanted is wants some (let e : first_frame c ≤ f.number = omega (arith, later) in e) in (λ chained. begins (goes.1 chained), λ p. goes.0 (first_of p))

-- ---- labels

pub labels_more : (c : Contents) (place : Loc) (funs : List FunInfo) → funs ≡ c.tables.funs → (k : ℕ) (info : FunInfo) → k < length funs → info ≡ slice_index_or funs k info
    → ((label : ℕ) → label < k → (i : FunInfo) → fun_info c.tables label ≡ Some i → is_at i.place place ≡ true → HasCode c label i.kind)
    → (is_at info.place place ≡ true → HasCode c k info.kind)
    → (label : ℕ) → label < k + 1 → (i : FunInfo) → fun_info c.tables label ≡ Some i → is_at i.place place ≡ true → HasCode c label i.kind
labels_more c place funs same k info within is so_far this label less i told at = by_place (cases_lt label k)
  where
    told_k : fun_info c.tables k ≡ Some info
    told_k = subst (λ xs. slice_get xs k ≡ Some info) same (slice_get_read funs (length funs) k info refl within is)

    by_place : (label < k) ⊎ (k ≤ label) → HasCode c label i.kind
    by_place (inl before) = so_far label before i told at
    by_place (inr behind) =
        let here : label ≡ k = omega (arith, less, behind) in
        let it : info ≡ i = same_some (sym told_k ∙ ap (fun_info c.tables) (sym here) ∙ told) in
        subst (λ n. HasCode c n i.kind) (sym here) (subst (λ (one : FunInfo). HasCode c k one.kind) it (this (subst (λ (one : FunInfo). is_at one.place place ≡ true) (sym it) at)))

pub labels_done : (c : Contents) (place : Loc) (funs : List FunInfo) → funs ≡ c.tables.funs → (k : ℕ) → length funs ≤ k
    → ((label : ℕ) → label < k → (i : FunInfo) → fun_info c.tables label ≡ Some i → is_at i.place place ≡ true → HasCode c label i.kind) → IsTrue true ↔ LabelsRun c place
labels_done c place funs same k end so_far = (
  λ _ label i told at.
      let within : label < length funs = subst (λ (xs : List FunInfo). label < length xs) (sym same) (slice_get_within c.tables.funs label i told) in
      so_far label (omega (arith, within, end)) i told at,
  λ _. refl,
)
