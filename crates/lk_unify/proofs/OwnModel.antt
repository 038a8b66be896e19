-- Values that fit, where each class of which nothing is known is a variable of its own: they give no row a label twice where other
-- values fit, since each label of theirs is one of the others'. And where values fit, their sizes are ranks.
use Rattle.std.proofs.Common.{◌≡◌, ℕ, zero, suc, ◌<◌, true, false, List, length, map, Option, Some, None, refl, sym, ◌∙◌, ap, subst, arith}
use Rattle.std.specs.FinMap as fin
use Rattle.lk_classes.specs.Classes.{class_at}
use Rattle.lk_types.proofs.Members.{each_weaker}
use Rattle.lk_types.specs.Each.{Each}
use Rattle.lk_types.specs.Rows.{Label, label_order}
use Rattle.lk_types.specs.declared.ty.RowTail.{RowTail}
use Rattle.lk_types.specs.declared.ty.RowTail.TheVariants.{Closed, Var}
use Rattle.lk_types.specs.declared.ty.Ty.TheVariants as ty
use Rattle.lk_arena.proofs.EachLemmas.{Each-zip}
use Rattle.lk_unify.proofs.EffectRows.{IsEffectRow-empty}
use Rattle.lk_arena.proofs.Heads.{made_plain}
use Rattle.lk_unify.proofs.Models as models
use Rattle.lk_arena.proofs.RowAlgebra.{found_prop, plain_some}
use Rattle.lk_unify.proofs.Shaping.{HasValue}
use Rattle.lk_arena.proofs.Sizes.{value_size, parts_smaller}
use Rattle.lk_arena.specs.Kinds.{Kind, OfTypes, OfFields, OfEffects, OfUnit, OfNothing, AreKinded, HasKind}
use Rattle.lk_unify.specs.Models.{IsOwn, OwnModelExists, RanksExist}
use Rattle.lk_arena.specs.Openings.{only_tail}
use Rattle.lk_arena.specs.Order.{IsRanked}
use Rattle.lk_unify.specs.Reading.{row_in}
use Rattle.lk_arena.specs.Shapes.{shape_at, parts_of, found_at, value_at, IsPlain, IsRowOf, IsBuilt, IsArena, Respects, WeakNodes, is_loose_shape}
use Rattle.lk_arena.specs.Values.{Value, Plain, OfRow}
use Rattle.lk_arena.specs.declared.node.Field.{Field}
use Rattle.lk_arena.specs.declared.node.Shape.{Shape}
use Rattle.lk_arena.specs.declared.node.Shape.TheVariants.{Free, Open, Empty, Made}
use Rattle.lk_arena.specs.declared.node.Shape.TheVariants as shape

-- ---- sizes as ranks

module _ (shapes : List Shape) (classes : List ℕ) (arena : IsArena shapes classes) (v : ℕ → Value) (fits : WeakNodes shapes classes v) where
  in_class : (i : ℕ) → i < length shapes → v i ≡ v (class_at classes i)
  in_class i b = fits.respects i (let c : length classes ≡ length shapes = arena.named.count in omega arith)

  sized : IsRanked shapes classes (λ i. value_size (v i))
  sized i b named =
      Each-zip (λ p. value_size (v p) < value_size (v i)) (λ p. p < length shapes) (λ p. value_size (v (class_at classes p)) < value_size (v i))
      (λ p less below. subst (λ x. value_size x < value_size (v i)) (in_class p below) less)
      (parts_of (shape_at shapes i)) (parts_smaller (shape_at shapes i) v (v i) (arena.distinct i b) (arena.filled i b) (fits.builds i b named)) (arena.nodes i b)

pub ranks_exist : RanksExist
ranks_exist shapes classes v arena fits = (λ i. value_size (v i), sized shapes classes arena v fits)

-- ---- labels that other values lack

-- the row lacks the label, if it is one
abbrev Lacks : Value → Label → Type 0
Lacks x l = fin.get (row_in x).fields l ≡ None

plain_lacks : (x : Value) (l : Label) → IsPlain x → Lacks x l
plain_lacks x l p = subst (λ x. Lacks x l) (sym p.1) (fin.get-empty label_order l)

tail_lacks : (x : Value) (tail : RowTail) (l : Label) → x ≡ OfRow (only_tail tail) → Lacks x l
tail_lacks x tail l e = subst (λ x. Lacks x l) (sym e) (fin.get-empty label_order l)

-- the label is not one of the fields of a row that lacks it
module _ (fs : List Field) (w : ℕ → Value) (y x : Value) (row : IsRowOf fs w y x) (l : Label) where
  at_row : fin.get (row_in x).fields l ≡ value_at w (found_at fs l) (fin.get (row_in y).fields l)
  at_row = ap (λ x. fin.get (row_in x).fields l) row.row_is ∙ row.at l ∙ ap (λ y. value_at w (found_at fs l) (fin.get (row_in y).fields l)) (sym row.tail_is)

  not_found : Lacks x l → found_at fs l ≡ None
  not_found lacks = by_found (found_at fs l) refl
    where
      by_found : (o : Option ℕ) → found_at fs l ≡ o → o ≡ None
      by_found None is = refl
      by_found (Some n) is =
          absurd (plain_some (w n) (found_prop (λ n. IsPlain (w n)) fs l n row.plain is) (sym (at_row ∙ ap (λ o. value_at w o (fin.get (row_in y).fields l)) is) ∙ lacks))

  behind : found_at fs l ≡ None → fin.get (row_in x).fields l ≡ fin.get (row_in y).fields l
  behind none = at_row ∙ ap (λ o. value_at w o (fin.get (row_in y).fields l)) none

module _ (shapes : List Shape) (classes : List ℕ) (rank : ℕ → ℕ) (arena : IsArena shapes classes) (ranked : IsRanked shapes classes rank) (v : ℕ → Value) (fits : WeakNodes shapes classes v)
    (u : ℕ → Value) (respects : Respects classes u) (c : ℕ)
    (under : (i : ℕ) → i < length shapes → class_at classes i ≡ i → rank i < rank c → IsBuilt (shape_at shapes i) u (u i))
    (ends : (i : ℕ) → i < length shapes → class_at classes i ≡ i → shape_at shapes i ≡ Open → (tail : RowTail) × (u i ≡ OfRow (only_tail tail))) where
  abbrev LacksBoth : ℕ → Label → Type 0
  LacksBoth i l = Lacks (v i) l → Lacks (u i) l

  of_class : (i : ℕ) (l : Label) → i < length shapes → LacksBoth (class_at classes i) l → LacksBoth i l
  of_class i l b both lacks =
      let in_classes : i < length classes = (let c : length classes ≡ length shapes = arena.named.count in omega arith) in
      subst (λ x. Lacks x l) (sym (respects i in_classes)) (both (subst (λ x. Lacks x l) (fits.respects i in_classes) lacks))

  by_shape : (i : ℕ) (l : Label) (s : Shape) → IsBuilt s u (u i) → IsBuilt s v (v i) → (s ≡ Open → (tail : RowTail) × (u i ≡ OfRow (only_tail tail))) → Each (λ p. LacksBoth p l) (parts_of s)
      → LacksBoth i l
  by_shape i l Free a b ends_here parts lacks = plain_lacks (u i) l a
  by_shape i l Open a b ends_here parts lacks = let e = ends_here refl in tail_lacks (u i) e.0 l e.1
  by_shape i l Empty a b ends_here parts lacks = tail_lacks (u i) Closed l a
  by_shape i l (Made h ps) a b ends_here parts lacks = plain_lacks (u i) l (made_plain h (map u ps) (u i) a)
  by_shape i l (shape.Row fs t) a b ends_here parts lacks =
      let none = not_found fs v (v t) (v i) b l lacks in
      behind fs u (u t) (u i) a l none ∙ parts.0 (sym (behind fs v (v t) (v i) b l none) ∙ lacks)

  lacks_both : (n i : ℕ) (l : Label) → i < length shapes → class_at classes i ≡ i → rank i < n → rank i < rank c → LacksBoth i l
  lacks_both zero i l b named h low = absurd (omega arith)
  lacks_both (suc n) i l b named h low =
      by_shape i l (shape_at shapes i) (under i b named low) (fits.builds i b named) (ends i b named)
      (Each-zip (λ p. rank (class_at classes p) < rank i) (λ p. p < length shapes) (λ p. LacksBoth p l)
      (λ p less below. of_class p l below (lacks_both n (class_at classes p) l (arena.named.below p below) (arena.named.named p below) (omega arith) (omega arith)))
      (parts_of (shape_at shapes i)) (ranked i b named) (arena.nodes i b))

  pub fresh_row : c < length shapes → class_at classes c ≡ c → (fs : List Field) (t : ℕ) → shape_at shapes c ≡ shape.Row fs t → Each (λ f. Lacks (u t) f.label) fs
  fresh_row b named fs t is =
      let row : IsRowOf fs v (v t) (v c) = subst (λ s. IsBuilt s v (v c)) is (fits.builds c b named) in
      let below : t < length shapes = (subst (λ s. Each (λ p. p < length shapes) (parts_of s)) is (arena.nodes c b)).0 in
      let less : rank (class_at classes t) < rank c = (subst (λ s. Each (λ p. rank (class_at classes p) < rank c) (parts_of s)) is (ranked c b named)).0 in
      each_weaker (λ f. fin.get row.tail.fields f.label ≡ None) (λ f. Lacks (u t) f.label)
      (λ f lacks. of_class t f.label below (lacks_both (rank c) (class_at classes t) f.label (arena.named.below t below) (arena.named.named t below) less less)
      (subst (λ x. Lacks x f.label) (sym row.tail_is) lacks))
      fs row.fresh

-- ---- a variable for each class of which nothing is known

abbrev own_value : Shape → ℕ → Value
own_value Open n = OfRow (only_tail (Var n))
own_value _ n = Plain (ty.Var n)

own_kind : (kind : ℕ → Kind) (k : Kind) (s : Shape) (n : ℕ) → HasKind kind k s → is_loose_shape s ≡ true → HasValue k (own_value s n)
own_kind kind OfTypes Free n h loose = (ty.Var n, refl)
own_kind kind OfFields Open n h loose = (only_tail (Var n), refl)
own_kind kind OfEffects Open n h loose = (only_tail (Var n), refl, IsEffectRow-empty (Var n))
own_kind kind OfTypes Open n h loose = absurd h
own_kind kind OfFields Free n h loose = absurd h
own_kind kind OfEffects Free n h loose = absurd h
own_kind kind OfUnit Free n h loose = absurd h
own_kind kind OfUnit Open n h loose = absurd h
own_kind kind OfNothing Free n h loose = absurd h
own_kind kind OfNothing Open n h loose = absurd h
own_kind kind k Empty n h loose = let f : false ≡ true = loose in cc
own_kind kind k (Made g ps) n h loose = let f : false ≡ true = loose in cc
own_kind kind k (shape.Row fs t) n h loose = let f : false ≡ true = loose in cc

module _ (shapes : List Shape) (classes : List ℕ) (kind : ℕ → Kind) (rank : ℕ → ℕ) (name : ℕ → ℕ) (arena : IsArena shapes classes) (kinded : AreKinded shapes classes kind)
    (ranked : IsRanked shapes classes rank) (v : ℕ → Value) (fits : WeakNodes shapes classes v) where
  abbrev chosen : ℕ → Value
  chosen i = own_value (shape_at shapes i) (name i)

  u : ℕ → Value
  u = models.v shapes classes kind rank arena kinded ranked chosen

  respects : Respects classes u
  unfolding u
  respects = models.respects shapes classes kind rank arena kinded ranked chosen

  types : (i : ℕ) → i < length shapes → class_at classes i ≡ i → shape_at shapes i ≡ Free → u i ≡ Plain (ty.Var (name i))
  unfolding u
  types i b named is = models.takes shapes classes kind rank arena kinded ranked chosen i b named (ap is_loose_shape is) ∙ ap (λ s. own_value s (name i)) is

  rows : (i : ℕ) → i < length shapes → class_at classes i ≡ i → shape_at shapes i ≡ Open → u i ≡ OfRow (only_tail (Var (name i)))
  unfolding u
  rows i b named is = models.takes shapes classes kind rank arena kinded ranked chosen i b named (ap is_loose_shape is) ∙ ap (λ s. own_value s (name i)) is

  model : WeakNodes shapes classes u
  unfolding u
  model =
      models.model shapes classes kind rank arena kinded ranked chosen (λ c b named loose. own_kind kind (kind c) (shape_at shapes c) (name c) (kinded c b).1 loose)
      (λ c b named under fs t is. fresh_row shapes classes rank arena ranked v fits u respects c under (λ i b named is. (Var (name i), rows i b named is)) b named fs t is)

  own : IsOwn shapes classes name u
  own = record { fits = model; types = types; rows = rows }

pub own_exists : OwnModelExists
own_exists shapes classes kind rank name v arena kinded ranked fits = (u shapes classes kind rank name arena kinded ranked v fits, own shapes classes kind rank name arena kinded ranked v fits)
