-- Kinds of nodes under the steps of merging.
use Rattle.std.proofs.Common.{◌≡◌, ◌≢◌, ℕ, ◌<◌, List, [], ◌∷◌, ◌++◌, ⊎_elim, length, map, Option, Some, None, cond, refl, sym, ◌∙◌, ap, subst, arith}
use Rattle.std.proofs.lemmas.Bool.{cases_eq, eq-eqb, ne_eqb}
use Rattle.std.specs.Prelude.{◌==◌}
use Rattle.lk_types.proofs.Members.{each_both, each_weaker, each_from_map}
use Rattle.lk_types.specs.Each.{Each}
use Rattle.lk_arena.proofs.EachLemmas.{Each-zip}
use Rattle.lk_arena.proofs.Growth.{map-each, old_shape, new_shape, old_class, new_class, old_or_new}
use Rattle.lk_arena.proofs.Relabel.{IsRelabeled, class_cases}
use Rattle.lk_arena.proofs.RowAlgebra.{Each-missing, found_prop}
use Rattle.lk_arena.specs.Kinds.{Kind, OfTypes, OfFields, OfEffects, OfUnit, OfNothing, AreFieldsOf, AreKinded, EqualKinds, HasKind, IsEffectName, IsFlatKinded, TakesKinds}
use Rattle.lk_classes.specs.Classes.{class_at, AreClasses}
use Rattle.lk_arena.specs.Shapes.{shape_at, common, found_at, missing, pair_common, parts_of, IsArena}
use Rattle.lk_arena.specs.Steps.{AreApart, paired}
use Rattle.lk_arena.specs.declared.node.Field.{Field}
use Rattle.lk_arena.specs.declared.node.Head.{Head}
use Rattle.lk_arena.specs.declared.node.Head.TheVariants as head
use Rattle.lk_arena.specs.declared.node.Shape.{Shape}
use Rattle.lk_arena.specs.declared.node.Shape.TheVariants.{Free, Open, Empty, Made}
use Rattle.lk_arena.specs.declared.node.Shape.TheVariants as shape

-- ---- fields

module _ (kind : ℕ → Kind) where
  pub row_kind : (k : Kind) (fs : List Field) (t : ℕ) → HasKind kind k (shape.Row fs t) → AreFieldsOf kind k fs × (kind t ≡ k)
  row_kind OfTypes fs t h = absurd h
  row_kind OfFields fs t h = h
  row_kind OfEffects fs t h = h
  row_kind OfUnit fs t h = absurd h
  row_kind OfNothing fs t h = absurd h

  pub kind_row : (k : Kind) (fs : List Field) (t : ℕ) → AreFieldsOf kind k fs → kind t ≡ k → HasKind kind k (shape.Row fs t)
  kind_row OfTypes fs t h e = absurd h
  kind_row OfFields fs t h e = (h, e)
  kind_row OfEffects fs t h e = (h, e)
  kind_row OfUnit fs t h e = absurd h
  kind_row OfNothing fs t h e = absurd h

  pub open_kind : (k : Kind) (fs : List Field) → AreFieldsOf kind k fs → HasKind kind k Open
  open_kind OfTypes fs h = absurd h
  open_kind OfFields fs h = tt
  open_kind OfEffects fs h = tt
  open_kind OfUnit fs h = absurd h
  open_kind OfNothing fs h = absurd h

  pub fields_append : (k : Kind) (fs gs : List Field) → AreFieldsOf kind k fs → AreFieldsOf kind k gs → AreFieldsOf kind k (fs ++ gs)
  fields_append OfTypes fs gs h g = absurd h
  fields_append OfFields fs gs h g = each_both (λ f. kind f.node ≡ OfTypes) fs gs h g
  fields_append OfEffects fs gs h g = each_both (λ f. IsEffectName f.label × (kind f.node ≡ OfUnit)) fs gs h g
  fields_append OfUnit fs gs h g = absurd h
  fields_append OfNothing fs gs h g = absurd h

  pub fields_missing : (k : Kind) (fs gs : List Field) → AreFieldsOf kind k fs → AreFieldsOf kind k (missing fs gs)
  fields_missing OfTypes fs gs h = absurd h
  fields_missing OfFields fs gs h = Each-missing (λ f. kind f.node ≡ OfTypes) fs gs h
  fields_missing OfEffects fs gs h = Each-missing (λ f. IsEffectName f.label × (kind f.node ≡ OfUnit)) fs gs h
  fields_missing OfUnit fs gs h = absurd h
  fields_missing OfNothing fs gs h = absurd h

  -- the nodes of the fields of one row have one kind
  one_kind : (k : Kind) (fs gs : List Field) → AreFieldsOf kind k fs → AreFieldsOf kind k gs → (part : Kind) × Each (λ f. kind f.node ≡ part) fs × Each (λ f. kind f.node ≡ part) gs
  one_kind OfTypes fs gs h g = absurd h
  one_kind OfFields fs gs h g = (OfTypes, h, g)
  one_kind OfEffects fs gs h g =
      let units : (fs : List Field) → AreFieldsOf kind OfEffects fs → Each (λ f. kind f.node ≡ OfUnit) fs =
      λ fs. each_weaker (λ f. IsEffectName f.label × (kind f.node ≡ OfUnit)) (λ f. kind f.node ≡ OfUnit) (λ f e. e.1) fs in
      (OfUnit, units fs h, units gs g)
  one_kind OfUnit fs gs h g = absurd h
  one_kind OfNothing fs gs h g = absurd h

  common_one : (part : Kind) (fs gs : List Field) → Each (λ f. kind f.node ≡ part) fs → Each (λ f. kind f.node ≡ part) gs → EqualKinds (common fs gs) kind
  common_one part [] gs h g = tt
  common_one part (f ∷ fs) gs h g = with_rest (found_at gs f.label) refl (common_one part fs gs h.1 g)
    where
      with_rest : (o : Option ℕ) → found_at gs f.label ≡ o → EqualKinds (common fs gs) kind → EqualKinds (pair_common o f.node (common fs gs)) kind
      with_rest None is rest = rest
      with_rest (Some n) is rest = (h.0 ∙ sym (found_prop (λ n. kind n ≡ part) gs f.label n g is), rest)

  pub common_kinds : (k : Kind) (fs gs : List Field) → AreFieldsOf kind k fs → AreFieldsOf kind k gs → EqualKinds (common fs gs) kind
  common_kinds k fs gs h g = let one = one_kind k fs gs h g in common_one one.0 fs gs one.1 one.2

  -- ---- parts of constructors

  all_types : (ps qs : List ℕ) → Each (λ k. k ≡ OfTypes) (map kind ps) → Each (λ k. k ≡ OfTypes) (map kind qs) → EqualKinds (paired ps qs) kind
  all_types [] qs h g = tt
  all_types (p ∷ ps) [] h g = tt
  all_types (p ∷ ps) (q ∷ qs) h g = (h.0 ∙ sym g.0, all_types ps qs h.1 g.1)

  one_part : (k : Kind) (p q : ℕ) → kind p ≡ k → kind q ≡ k → EqualKinds (paired (p ∷ []) (q ∷ [])) kind
  one_part k p q h g = (h ∙ sym g, tt)

  taken_kinds : (h : Head) (ps qs : List ℕ) → TakesKinds h (map kind ps) → TakesKinds h (map kind qs) → EqualKinds (paired ps qs) kind
  taken_kinds h [] qs a b = tt
  taken_kinds h (p ∷ ps) [] a b = tt
  taken_kinds head.Int (p ∷ ps) (q ∷ qs) a b = absurd a
  taken_kinds head.Bool (p ∷ ps) (q ∷ qs) a b = absurd a
  taken_kinds head.Text (p ∷ ps) (q ∷ qs) a b = absurd a
  taken_kinds head.List (p ∷ []) (q ∷ []) a b = one_part OfTypes p q a b
  taken_kinds head.List (p ∷ r ∷ ps) (q ∷ qs) a b = absurd a
  taken_kinds head.List (p ∷ []) (q ∷ r ∷ qs) a b = absurd b
  taken_kinds head.Fields (p ∷ []) (q ∷ []) a b = one_part OfFields p q a b
  taken_kinds head.Fields (p ∷ r ∷ ps) (q ∷ qs) a b = absurd a
  taken_kinds head.Fields (p ∷ []) (q ∷ r ∷ qs) a b = absurd b
  taken_kinds head.Tags (p ∷ []) (q ∷ []) a b = one_part OfFields p q a b
  taken_kinds head.Tags (p ∷ r ∷ ps) (q ∷ qs) a b = absurd a
  taken_kinds head.Tags (p ∷ []) (q ∷ r ∷ qs) a b = absurd b
  taken_kinds head.Fun (p ∷ []) (q ∷ qs) a b = absurd a
  taken_kinds head.Fun (p ∷ r ∷ ps) (q ∷ []) a b = absurd b
  taken_kinds head.Fun (p ∷ r ∷ ps) (q ∷ s ∷ qs) a b = (a.0 ∙ sym b.0, (a.1 ∙ sym b.1, all_types ps qs a.2 b.2))

  unit_kinds : (h : Head) (ps qs : List ℕ) → HasKind kind OfUnit (Made h ps) → HasKind kind OfUnit (Made h qs) → EqualKinds (paired ps qs) kind
  unit_kinds head.Int ps qs a b = absurd a
  unit_kinds head.Bool ps qs a b = absurd a
  unit_kinds head.Text ps qs a b = absurd a
  unit_kinds head.List ps qs a b = absurd a
  unit_kinds head.Tags ps qs a b = absurd a
  unit_kinds head.Fun ps qs a b = absurd a
  unit_kinds head.Fields [] qs a b = absurd a
  unit_kinds head.Fields (p ∷ []) [] a b = absurd b
  unit_kinds head.Fields (p ∷ []) (q ∷ []) a b = one_part OfNothing p q a b
  unit_kinds head.Fields (p ∷ []) (q ∷ r ∷ qs) a b = absurd b
  unit_kinds head.Fields (p ∷ r ∷ ps) qs a b = absurd a

  pub made_kinds : (k : Kind) (h : Head) (ps qs : List ℕ) → HasKind kind k (Made h ps) → HasKind kind k (Made h qs) → EqualKinds (paired ps qs) kind
  made_kinds OfTypes h ps qs a b = taken_kinds h ps qs a b
  made_kinds OfFields h ps qs a b = absurd a
  made_kinds OfEffects h ps qs a b = absurd a
  made_kinds OfUnit h ps qs a b = unit_kinds h ps qs a b
  made_kinds OfNothing h ps qs a b = absurd a

-- ---- kinds that agree at the parts

module _ (kind more : ℕ → Kind) where
  pub fields_same : (k : Kind) (fs : List Field) → Each (λ f. more f.node ≡ kind f.node) fs → AreFieldsOf kind k fs → AreFieldsOf more k fs
  fields_same OfTypes fs e h = absurd h
  fields_same OfFields fs e h = Each-zip (λ f. more f.node ≡ kind f.node) (λ f. kind f.node ≡ OfTypes) (λ f. more f.node ≡ OfTypes) (λ f a b. a ∙ b) fs e h
  fields_same OfEffects fs e h =
      Each-zip (λ f. more f.node ≡ kind f.node) (λ f. IsEffectName f.label × (kind f.node ≡ OfUnit)) (λ f. IsEffectName f.label × (more f.node ≡ OfUnit)) (λ f a b. (b.0, a ∙ b.1)) fs e h
  fields_same OfUnit fs e h = absurd h
  fields_same OfNothing fs e h = absurd h

  unit_same : (h : Head) (ps : List ℕ) → Each (λ p. more p ≡ kind p) ps → HasKind kind OfUnit (Made h ps) → HasKind more OfUnit (Made h ps)
  unit_same head.Int ps e a = absurd a
  unit_same head.Bool ps e a = absurd a
  unit_same head.Text ps e a = absurd a
  unit_same head.List ps e a = absurd a
  unit_same head.Tags ps e a = absurd a
  unit_same head.Fun ps e a = absurd a
  unit_same head.Fields [] e a = absurd a
  unit_same head.Fields (p ∷ []) e a = e.0 ∙ a
  unit_same head.Fields (p ∷ q ∷ ps) e a = absurd a

  made_same : (k : Kind) (h : Head) (ps : List ℕ) → Each (λ p. more p ≡ kind p) ps → HasKind kind k (Made h ps) → HasKind more k (Made h ps)
  made_same OfTypes h ps e a = subst (TakesKinds h) (map-each kind more ps e) a
  made_same OfFields h ps e a = absurd a
  made_same OfEffects h ps e a = absurd a
  made_same OfUnit h ps e a = unit_same h ps e a
  made_same OfNothing h ps e a = absurd a

  pub kind_same : (s : Shape) (k : Kind) → Each (λ p. more p ≡ kind p) (parts_of s) → HasKind kind k s → HasKind more k s
  kind_same (Made h ps) k e a = made_same k h ps e a
  kind_same (shape.Row fs t) k e a =
      let r = row_kind kind k fs t a in
      kind_row more k fs t (fields_same k fs (each_from_map (λ p. more p ≡ kind p) (λ (f : Field). f.node) fs e.1) r.0) (e.0 ∙ r.1)
  kind_same Free OfTypes e a = tt
  kind_same Free OfFields e a = absurd a
  kind_same Free OfEffects e a = absurd a
  kind_same Free OfUnit e a = absurd a
  kind_same Free OfNothing e a = absurd a
  kind_same Open OfTypes e a = absurd a
  kind_same Open OfFields e a = tt
  kind_same Open OfEffects e a = tt
  kind_same Open OfUnit e a = absurd a
  kind_same Open OfNothing e a = absurd a
  kind_same Empty OfTypes e a = absurd a
  kind_same Empty OfFields e a = tt
  kind_same Empty OfEffects e a = tt
  kind_same Empty OfUnit e a = absurd a
  kind_same Empty OfNothing e a = tt

-- ---- one class put into another

pub kinds_unite : (shapes : List Shape) (old new : List ℕ) (from to : ℕ) → AreClasses (length shapes) old → AreApart (length shapes) old from to → IsRelabeled old new from to
    → (kind : ℕ → Kind) → AreKinded shapes old kind → kind from ≡ kind to → AreKinded shapes new kind
kinds_unite shapes old new from to c d r kind kinded same i h = (
  ⊎_elim (λ p. ap kind p.1 ∙ sym same ∙ ap kind (sym p.0) ∙ (kinded i h).0) (λ p. ap kind p.1 ∙ (kinded i h).0)
      (class_cases (length shapes) old new from to c d r i h),
  (kinded i h).1,
)

-- ---- a row of which something is known now

pub kinds_bind : (shapes new : List Shape) (classes names : List ℕ) (node : ℕ) (fields : List Field) (tail : ℕ) → length new ≡ length shapes → names ≡ classes
    → shape_at new node ≡ shape.Row fields tail → ((i : ℕ) → i ≢ node → shape_at new i ≡ shape_at shapes i)
    → (kind : ℕ → Kind) → AreKinded shapes classes kind → AreFieldsOf kind (kind node) fields → kind tail ≡ kind node → AreKinded new names kind
kinds_bind shapes new classes names node fields tail count same now others kind kinded of_kind tail_kind i h =
    let was = kinded i (omega (arith, count)) in (
      ap (λ cs. kind (class_at cs i)) same ∙ was.0,
      ⊎_elim
          (λ (e : i ≡ node). subst (λ k. HasKind kind (kind k) (shape_at new k)) (sym e)
          (subst (HasKind kind (kind node)) (sym now) (kind_row kind (kind node) fields tail of_kind tail_kind)))
          (λ (ne : i ≢ node). subst (HasKind kind (kind i)) (sym (others i ne)) was.1)
          (cases_eq i node),
    )

-- ---- a node more

abbrev put_kind : (ℕ → Kind) → ℕ → Kind → ℕ → Kind
put_kind kind n k i = cond (i == n) k (kind i)

module _ (shapes : List Shape) (classes : List ℕ) (s : Shape) (arena : IsArena shapes classes) (parts : Each (λ p. p < length shapes) (parts_of s)) (kind : ℕ → Kind) (k : Kind)
    (kinded : AreKinded shapes classes kind) (own : HasKind kind k s) where
  more : ℕ → Kind
  more = put_kind kind (length shapes) k

  more_below : (i : ℕ) → i < length shapes → more i ≡ kind i
  unfolding more
  more_below i h = ap (λ b. cond b k (kind i)) (ne_eqb i (length shapes) (omega arith))

  more_at : more (length shapes) ≡ k
  unfolding more
  more_at = ap (λ b. cond b k (kind (length shapes))) (eq-eqb (length shapes) (length shapes) refl)

  kinds_push : AreKinded (shapes ++ s ∷ []) (classes ++ length shapes ∷ []) more
  kinds_push i h =
      ⊎_elim
      (λ (b : i < length shapes). (
        ap more (old_class shapes classes s arena parts i b) ∙ more_below (class_at classes i) (arena.named.below i b) ∙ (kinded i b).0 ∙ sym (more_below i b),
        subst (λ t. HasKind more (more i) t) (sym (old_shape shapes classes s arena parts i b))
            (subst (λ k. HasKind more k (shape_at shapes i)) (sym (more_below i b))
            (kind_same kind more (shape_at shapes i) (kind i)
            (each_weaker (λ p. p < length shapes) (λ p. more p ≡ kind p) (λ p l. more_below p l) (parts_of (shape_at shapes i)) (arena.nodes i b)) (kinded i b).1)),
      ))
      (λ (e : i ≡ length shapes). subst (λ i. (more (class_at (classes ++ length shapes ∷ []) i) ≡ more i) × HasKind more (more i) (shape_at (shapes ++ s ∷ []) i)) (sym e) (
        ap more (new_class shapes classes s arena parts),
        subst (λ t. HasKind more (more (length shapes)) t) (sym (new_shape shapes classes s arena parts))
            (subst (λ k. HasKind more k s) (sym more_at)
            (kind_same kind more s k (each_weaker (λ p. p < length shapes) (λ p. more p ≡ kind p) (λ p l. more_below p l) (parts_of s) parts) own)),
      ))
      (old_or_new shapes classes s arena parts i h)

  pub kinds_add : (more_shapes : List Shape) (names : List ℕ) (n : ℕ) → more_shapes ≡ shapes ++ s ∷ [] → names ≡ classes ++ length shapes ∷ [] → n ≡ length shapes
      → (more : ℕ → Kind) × ((i : ℕ) → i < length shapes → more i ≡ kind i) × AreKinded more_shapes names more × (more n ≡ k)
  kinds_add more_shapes names n a b c =
      (more, more_below, subst (λ ss. AreKinded ss names more) (sym a) (subst (λ cs. AreKinded (shapes ++ s ∷ []) cs more) (sym b) kinds_push), ap more c ∙ more_at)

-- ---- the fields of a row and of those below it

module _ (shapes : List Shape) (classes : List ℕ) (arena : IsArena shapes classes) where
  -- of a row's own shape, down to the class of its tail
  own_kinds : (i : ℕ) (fs : List Field) (t : ℕ) → i < length shapes → shape_at shapes i ≡ shape.Row fs t → (kind : ℕ → Kind) → AreKinded shapes classes kind
      → AreFieldsOf kind (kind i) fs × (kind (class_at classes t) ≡ kind i)
  own_kinds i fs t h is kind kinded =
      let own = row_kind kind (kind i) fs t (subst (HasKind kind (kind i)) is (kinded i h).1) in
      let parts = subst (λ s. Each (λ p. p < length shapes) (parts_of s)) is (arena.nodes i h) in
      (own.0, (kinded t parts.0).0 ∙ own.1)

  pub kinds_start : (row : ℕ) (own : List Field) (first : ℕ) → row < length shapes → shape_at shapes row ≡ shape.Row own first
      → IsFlatKinded shapes classes row own (class_at classes first)
  kinds_start row own first h is kind kinded = own_kinds row own first h is kind kinded

  pub kinds_more : (row : ℕ) (fields : List Field) (tail : ℕ) (more : List Field) (next : ℕ) → tail < length shapes → shape_at shapes tail ≡ shape.Row more next
      → IsFlatKinded shapes classes row fields tail → IsFlatKinded shapes classes row (fields ++ more) (class_at classes next)
  kinds_more row fields tail more next h is flat kind kinded =
      let upper = flat kind kinded in
      let lower = own_kinds tail more next h is kind kinded in
      (fields_append kind (kind row) fields more upper.0 (subst (λ k. AreFieldsOf kind k more) upper.1 lower.0), lower.1 ∙ upper.1)
