-- The level of a class makes its type, where the types of its parts stand at their places.
use Rattle.std.proofs.Common.{arith, drop, get_or, suc, take, ◌-◌, ◌≡◌, ℕ, ◌<◌, List, [], ◌∷◌, length, map, refl, sym, ◌∙◌, ap, subst, Some, None}
use Rattle.std.proofs.lemmas.List.{take_all}
use Rattle.std.specs.FinMap as fin
use Rattle.lk_arena.proofs.RowAlgebra.{row_same}
use Rattle.lk_arena.specs.Counting.{IsAmong}
use Rattle.lk_arena.specs.Kinds.{Kind, OfTypes, OfFields, OfEffects, OfUnit, OfNothing, AreKinded, HasKind, TakesKinds}
use Rattle.lk_arena.specs.Openings.{effects_type, field_type, only_tail, row_type, OpenRow}
use Rattle.lk_arena.specs.Shapes.{found_at, parts_of, shape_at, value_at, IsBuilt}
use Rattle.lk_arena.specs.Values.{Value, IsMadeOf}
use Rattle.lk_arena.specs.declared.arena.Arena.{Arena}
use Rattle.lk_arena.specs.declared.node.Field.{Field}
use Rattle.lk_arena.specs.declared.node.Head.{Head}
use Rattle.lk_arena.specs.declared.node.Head.TheVariants as head
use Rattle.lk_arena.specs.declared.node.Shape.{Shape}
use Rattle.lk_arena.specs.declared.node.Shape.TheVariants.{Free, Open, Empty, Made}
use Rattle.lk_arena.specs.declared.node.Shape.TheVariants as shape
use Rattle.lk_classes.specs.Classes.{class_at}
use Rattle.lk_types.proofs.LabelMaps.{no_entries}
use Rattle.lk_types.proofs.Members.{each_weaker}
use Rattle.lk_types.specs.Each.{Each}
use Rattle.lk_types.specs.Levels.{at, built, field_made, made, row_made, row_parts, IsBelow}
use Rattle.lk_types.specs.Rows.{Label, label_order}
use Rattle.lk_types.specs.declared.levels.Level.{Level}
use Rattle.lk_types.specs.declared.levels.Level.TheVariants as level
use Rattle.lk_types.specs.declared.ty.Effects.{Effects}
use Rattle.lk_types.specs.declared.ty.RowTail.{RowTail}
use Rattle.lk_types.specs.declared.ty.Ty.{Ty}
use Rattle.lk_types.specs.declared.ty.Ty.TheVariants as ty
use Rattle.lk_types.specs.declared.ty.TyRow.{roll-TyRow}
use Rattle.lk_unify.proofs.ChainRows.{chain_fields, chain_read, IsRead, IsTypeField}
use Rattle.lk_unify.proofs.PlacedFields.{fields_placed, parts_placed, places_each}
use Rattle.lk_unify.proofs.PlacedRows.{chain_over}
use Rattle.lk_unify.proofs.ReadParts.{made_fields, made_list, made_tags}
use Rattle.lk_unify.proofs.ReadRows.{made_function}
use Rattle.lk_unify.specs.Levels.{chain, chain_end, class_shape, end_at, no_places, place_field, place_of, row_level, with_places, AreRead, CanMakeLevel, CanReadNodes, IsLevelFor, IsMadeLevel}
use Rattle.lk_unify.specs.Models.{IsOwn}
use Rattle.lk_unify.specs.Reading.{effects_in, name_in, row_in, type_in}

-- a function by what is read of its parts
pub function_made : (nodes : Arena) (numbers places : List ℕ) (fuel : ℕ) (parts : List ℕ) (effects : Effects) (params : List ℕ) (answer : ℕ) → CanMakeLevel nodes numbers fuel head.Fun parts →
    ((u : ℕ → Value) → IsOwn nodes.shapes nodes.classes (name_in numbers) u → effects ≡ effects_type (effects_in (row_in (u (get_or parts 0 0))))) →
    params ≡ map (place_of nodes places) (take (length parts - 2) (drop 2 parts)) → answer ≡ place_of nodes places (get_or parts 1 0) →
    IsMadeLevel nodes numbers places fuel head.Fun parts (level.Fun params effects answer)
function_made nodes numbers places fuel [] effects params answer can e p a = absurd can
function_made nodes numbers places fuel (r ∷ []) effects params answer can e p a = absurd can
function_made nodes numbers places fuel (r ∷ q ∷ ps) effects params answer can e p a =
    let all : params ≡ map (place_of nodes places) ps = p ∙ ap (map (place_of nodes places)) (take_all (suc (suc (length ps)) - 2) ps (omega arith)) in
    (effects, (λ i. level.Fun (all i) effects (a i)), e)

module _ (nodes : Arena) (numbers : List ℕ) (fuel : ℕ) (can : CanReadNodes nodes numbers fuel) (levels : List Level) (places done : List ℕ) (read : AreRead nodes numbers levels places done)
    (kind : ℕ → Kind) (kinded : AreKinded nodes.shapes nodes.classes kind) where
  abbrev ts : List Ty
  ts = built levels

  -- a node among the classes that are done
  abbrev IsDone : ℕ → Type 0
  IsDone n = IsAmong nodes.classes done n

  abbrev IsNode : ℕ → Type 0
  IsNode n = n < length nodes.shapes

  -- ---- rows

  module _ (n : ℕ) (below : IsNode n) (is : kind n ≡ OfFields) (among : IsDone n) where
    abbrev the_fields : List Field
    the_fields = chain nodes fuel n

    fields : Each (IsTypeField nodes numbers fuel can kind kinded IsDone read.closed) the_fields
    fields = chain_fields nodes numbers fuel can kind kinded IsDone read.closed fuel n (below, is, among)

    row_below : Each (λ p. p < length levels) (row_parts (row_level nodes numbers places fuel n))
    row_below =
        parts_placed (λ p. p < length levels) (fin.entries (with_places nodes places the_fields no_places))
        (places_each (λ p. p < length levels) nodes places the_fields
        (each_weaker (IsTypeField nodes numbers fuel can kind kinded IsDone read.closed) (λ f. place_of nodes places f.node < length levels) (λ f h. (read.types kind kinded f.node h.0 h.1 h.2).placed) the_fields fields))

    module _ (u : ℕ → Value) (own : IsOwn nodes.shapes nodes.classes (name_in numbers) u) where
      down : IsRead nodes numbers fuel can kind kinded u own fuel n
      down = chain_read nodes numbers fuel can kind kinded u own fuel n below is (can.room (class_at nodes.classes n) (can.arena.named.below n below))

      abbrev end : RowTail
      end = end_at nodes numbers (chain_end nodes fuel n)

      tail_is : down.row.tail ≡ only_tail end
      tail_is = row_same down.row.tail (only_tail end) (sym down.row.tail_is ∙ down.end)

      all_at : (l : Label) → fin.get down.row.row.fields l ≡ value_at u (found_at the_fields l) None
      all_at l =
          down.row.at l ∙ ap (λ (m : OpenRow). value_at u (found_at the_fields l) (fin.get m.fields l)) tail_is ∙ ap (value_at u (found_at the_fields l)) (fin.get-empty label_order l)

      fields_are : map (field_made ts) (row_level nodes numbers places fuel n).fields ≡ map field_type (fin.entries down.row.row.fields)
      fields_are =
          fields_placed nodes places ts u the_fields down.distinct down.row.plain
          (each_weaker (IsTypeField nodes numbers fuel can kind kinded IsDone read.closed) (λ f. at ts (place_of nodes places f.node) ≡ type_in (u f.node))
          (λ f h. (read.types kind kinded f.node h.0 h.1 h.2).stands u own) the_fields fields)
          down.row.row.fields all_at

      end_is : end ≡ down.row.row.tail
      end_is = sym (down.row.same_end ∙ ap (λ (m : OpenRow). m.tail) tail_is)

      row_stands : row_made ts (row_level nodes numbers places fuel n) ≡ row_type (row_in (u n))
      row_stands = (λ i. roll-TyRow (record { fields = fields_are i; tail = end_is i })) ∙ ap row_type (sym (ap row_in down.row.row_is))

  -- ---- constructors

  places_below : (ps : List ℕ) → Each (λ k. k ≡ OfTypes) (map kind ps) → Each IsNode ps → Each IsDone ps → Each (λ p. p < length levels) (map (place_of nodes places) ps)
  places_below [] types below among = tt
  places_below (p ∷ ps) types below among = ((read.types kind kinded p below.0 types.0 among.0).placed, places_below ps types.1 below.1 among.1)

  made_below : (h : Head) (ps : List ℕ) (l : Level) → IsMadeLevel nodes numbers places fuel h ps l → TakesKinds h (map kind ps) → Each IsNode ps → Each IsDone ps → IsBelow (length levels) l
  made_below head.Int [] l is takes below among = subst (IsBelow (length levels)) (sym is) tt
  made_below head.Bool [] l is takes below among = subst (IsBelow (length levels)) (sym is) tt
  made_below head.Text [] l is takes below among = subst (IsBelow (length levels)) (sym is) tt
  made_below head.List (p ∷ []) l is takes below among = subst (IsBelow (length levels)) (sym is) ((read.types kind kinded p below.0 takes among.0).placed, tt)
  made_below head.Fields (p ∷ []) l is takes below among = subst (IsBelow (length levels)) (sym is) (row_below p below.0 takes among.0)
  made_below head.Tags (p ∷ []) l is takes below among = subst (IsBelow (length levels)) (sym is) (row_below p below.0 takes among.0)
  made_below head.Fun (p ∷ answer ∷ params) l is takes below among =
      subst (IsBelow (length levels)) (sym is.1)
      ((read.types kind kinded answer below.1.0 takes.1 among.1.0).placed, places_below params takes.2 below.1.1 among.1.1)
  made_below _ _ l is takes below among = absurd takes

  module _ (u : ℕ → Value) (own : IsOwn nodes.shapes nodes.classes (name_in numbers) u) where
    stands : (p : ℕ) → IsNode p → kind p ≡ OfTypes → IsDone p → at ts (place_of nodes places p) ≡ type_in (u p)
    stands p below is among = (read.types kind kinded p below is among).stands u own

    all_stand : (ps : List ℕ) → Each (λ k. k ≡ OfTypes) (map kind ps) → Each IsNode ps → Each IsDone ps → map (at ts) (map (place_of nodes places) ps) ≡ map type_in (map u ps)
    all_stand [] types below among = refl
    all_stand (p ∷ ps) types below among =
        ap (λ t. t ∷ map (at ts) (map (place_of nodes places) ps)) (stands p below.0 types.0 among.0)
        ∙ ap (λ rest. type_in (u p) ∷ rest) (all_stand ps types.1 below.1 among.1)

    made_stands : (h : Head) (ps : List ℕ) (l : Level) (x : Value) → IsMadeLevel nodes numbers places fuel h ps l → TakesKinds h (map kind ps) → Each IsNode ps → Each IsDone ps
        → IsMadeOf h (map u ps) x → made ts l ≡ type_in x
    made_stands head.Int [] l x is takes below among m = ap (made ts) is ∙ sym (ap type_in m)
    made_stands head.Bool [] l x is takes below among m = ap (made ts) is ∙ sym (ap type_in m)
    made_stands head.Text [] l x is takes below among m = ap (made ts) is ∙ sym (ap type_in m)
    made_stands head.List (p ∷ []) l x is takes below among m = ap (made ts) is ∙ ap ty.List (stands p below.0 takes among.0) ∙ sym (made_list (u p) x m)
    made_stands head.Fields (p ∷ []) l x is takes below among m = ap (made ts) is ∙ ap ty.Fields (row_stands p below.0 takes among.0 u own) ∙ sym (made_fields (u p) x m)
    made_stands head.Tags (p ∷ []) l x is takes below among m = ap (made ts) is ∙ ap ty.Tags (row_stands p below.0 takes among.0 u own) ∙ sym (made_tags (u p) x m)
    made_stands head.Fun (p ∷ answer ∷ params) l x is takes below among m =
        let all : map (at ts) (map (place_of nodes places) params) ≡ map type_in (map u params) = all_stand params takes.2 below.1.1 among.1.1 in
        let one : at ts (place_of nodes places answer) ≡ type_in (u answer) = stands answer below.1.0 takes.1 among.1.0 in
        ap (made ts) is.1
        ∙ (λ i. ty.Fun (all i) (is.2 u own i) (one i))
        ∙ sym (made_function (u p) (u answer) (map u params) x m)
    made_stands _ _ l x is takes below among m = absurd takes

  -- ---- classes

  -- the unit type of effects has a row without fields
  nothing_below : (p : ℕ) → IsNode p → kind p ≡ OfNothing → Each (λ p. p < length levels) (row_parts (row_level nodes numbers places fuel p))
  nothing_below p below is =
      subst (λ fs. Each (λ p. p < length levels) (row_parts (record { fields = map place_field (fin.entries (with_places nodes places fs no_places)); tail = end_at nodes numbers (chain_end nodes fuel p) })))
      (sym (chain_over nodes fuel p no_row).0)
      (parts_placed (λ p. p < length levels) (fin.entries no_places) (subst (Each (λ e. e.1 < length levels)) (sym no_entries) tt))
    where
      empty_shape : HasKind kind OfNothing (class_shape nodes p)
      empty_shape =
          let c = kinded p below in
          subst (λ k. HasKind kind k (class_shape nodes p)) (c.0 ∙ is) (kinded (class_at nodes.classes p) (can.arena.named.below p below)).1

      no_row : (fs : List Field) (t : ℕ) → class_shape nodes p ≡ shape.Row fs t → ⊥
      no_row fs t same = subst (HasKind kind OfNothing) same empty_shape

  class_below : (k : Kind) (s : Shape) (c : ℕ) (l : Level) → IsLevelFor nodes numbers places fuel c s (Some l) → HasKind kind k s → Each IsNode (parts_of s) → Each IsDone (parts_of s)
      → IsBelow (length levels) l
  class_below OfTypes Free c l is has below among = subst (IsBelow (length levels)) (sym is) tt
  class_below OfTypes (Made h ps) c l is has below among = made_below h ps l is has below among
  class_below OfUnit (Made head.Fields (p ∷ [])) c l is has below among = subst (IsBelow (length levels)) (sym is) (nothing_below p below.0 has)
  class_below OfFields Open c l is has below among = absurd is
  class_below OfFields Empty c l is has below among = absurd is
  class_below OfFields (shape.Row fs t) c l is has below among = absurd is
  class_below OfEffects Open c l is has below among = absurd is
  class_below OfEffects Empty c l is has below among = absurd is
  class_below OfEffects (shape.Row fs t) c l is has below among = absurd is
  class_below OfNothing Empty c l is has below among = absurd is
  class_below _ _ c l is has below among = absurd has

  class_stands : (s : Shape) (c : ℕ) (l : Level) → IsNode c → class_at nodes.classes c ≡ c → shape_at nodes.shapes c ≡ s → IsLevelFor nodes numbers places fuel c s (Some l) → HasKind kind OfTypes s
      → Each IsNode (parts_of s) → Each IsDone (parts_of s) → (u : ℕ → Value) → IsOwn nodes.shapes nodes.classes (name_in numbers) u → made ts l ≡ type_in (u c)
  class_stands Free c l node named at is has below among u own = ap (made ts) is ∙ sym (ap type_in (own.types c node named at))
  class_stands (Made h ps) c l node named at is has below among u own =
      made_stands u own h ps l (u c) is has below among (subst (λ s. IsBuilt s u (u c)) at (own.fits.builds c node named))
  class_stands Open c l node named at is has below among u own = absurd has
  class_stands Empty c l node named at is has below among u own = absurd has
  class_stands (shape.Row fs t) c l node named at is has below among u own = absurd has

  module _ (c : ℕ) (l : Level) (node : IsNode c) (named : class_at nodes.classes c ≡ c) (is : IsLevelFor nodes numbers places fuel c (shape_at nodes.shapes c) (Some l))
      (among : Each IsDone (parts_of (shape_at nodes.shapes c))) where
    pub level_below : IsBelow (length levels) l
    level_below = class_below (kind c) (shape_at nodes.shapes c) c l is (kinded c node).1 (can.arena.nodes c node) among

    pub level_stands : kind c ≡ OfTypes → (u : ℕ → Value) → IsOwn nodes.shapes nodes.classes (name_in numbers) u → made ts l ≡ type_in (u c)
    level_stands types u own =
        class_stands (shape_at nodes.shapes c) c l node named refl is (subst (λ k. HasKind kind k (shape_at nodes.shapes c)) types (kinded c node).1) (can.arena.nodes c node) among u own
