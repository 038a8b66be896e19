-- The levels of classes that are done, with one class more, and with all of them.
use Rattle.std.proofs.Common.{◌≡◌, ℕ, zero, suc, ◌+◌, ◌<◌, ◌⊎◌, inl, inr, ⊎_elim, List, [], ◌∷◌, ◌++◌, length, map, refl, set, sym, ◌∙◌, ap, subst, arith, Some, None}
use Rattle.std.proofs.lemmas.Bool.{cases_eq}
use Rattle.std.proofs.lemmas.List.{get_or-set_other, get_or-set_same, length-append}
use Rattle.std.proofs.lemmas.List.Sums.{fold-append}
use Rattle.std.specs.Prelude.{slice_get, slice_index_or as get_or}
use Rattle.lk_arena.proofs.Placed.{places}
use Rattle.lk_arena.specs.Counting.{IsAmong}
use Rattle.lk_arena.specs.Kinds.{Kind, OfTypes, AreKinded, HasKind}
use Rattle.lk_arena.specs.Shapes.{parts_of, shape_at}
use Rattle.lk_arena.specs.Values.{Value}
use Rattle.lk_arena.specs.declared.arena.Arena.{Arena}
use Rattle.lk_arena.specs.declared.node.Shape.{Shape}
use Rattle.lk_arena.specs.declared.node.Shape.TheVariants.{Free, Open, Empty, Made}
use Rattle.lk_arena.specs.declared.node.Shape.TheVariants as shape
use Rattle.lk_classes.specs.Classes.{class_at}
use Rattle.lk_types.proofs.Built.{built_front, built_long}
use Rattle.lk_types.proofs.Members.{each_weaker, one_in_front, one_of_both}
use Rattle.lk_types.specs.Each.{Each}
use Rattle.lk_types.specs.Levels.{at, built, made, types_at, with_level, AreBelow, IsBelow, IsTable}
use Rattle.lk_types.specs.declared.levels.Level.{Level}
use Rattle.lk_types.specs.declared.ty.Ty.{Ty}
use Rattle.lk_unify.proofs.LevelsMade.{level_below, level_stands}
use Rattle.lk_unify.specs.Levels.{class_shape, place_of, AreRead, CanReadAll, CanReadNodes, IsLevelFor, IsReadAt}
use Rattle.lk_unify.specs.Models.{IsOwn}
use Rattle.lk_unify.specs.Reading.{name_in, type_in}

-- ---- one level more

at_end : (ts : List Ty) (t : Ty) → at (ts ++ t ∷ []) (length ts) ≡ t
at_end [] t = refl
at_end (u ∷ ts) t = at_end ts t

built_last : (levels : List Level) (l : Level) → at (built (levels ++ l ∷ [])) (length levels) ≡ made (built levels) l
built_last levels l =
    ap (λ ts. at ts (length levels)) (fold-append with_level [] levels (l ∷ []))
    ∙ ap (at (built levels ++ made (built levels) l ∷ [])) (sym (built_long levels))
    ∙ at_end (built levels) (made (built levels) l)

level_cases : (levels : List Level) (l : Level) (k : ℕ) (m : Level) → slice_get (levels ++ l ∷ []) k ≡ Some m → (slice_get levels k ≡ Some m) ⊎ ((length levels ≡ k) × (l ≡ m))
level_cases [] l zero m is = inr (refl, cc)
level_cases [] l (suc k) m is = absurd cc
level_cases (x ∷ levels) l zero m is = inl is
level_cases (x ∷ levels) l (suc k) m is =
    ⊎_elim (λ (e : slice_get levels k ≡ Some m). inl e) (λ (e : (length levels ≡ k) × (l ≡ m)). inr (ap suc e.0, e.1)) (level_cases levels l k m is)

below_more : (levels : List Level) (l : Level) → AreBelow levels → IsBelow (length levels) l → AreBelow (levels ++ l ∷ [])
below_more levels l below last k m is =
    ⊎_elim (λ (e : slice_get levels k ≡ Some m). below k m e) (λ (e : (length levels ≡ k) × (l ≡ m)). subst (λ m. IsBelow k m) e.1 (subst (λ k. IsBelow k l) e.0 last)) (level_cases levels l k m is)

-- ---- one class more

module _ (nodes : Arena) (numbers : List ℕ) (levels : List Level) (places done : List ℕ) (read : AreRead nodes numbers levels places done)
    (c : ℕ) (among : Each (IsAmong nodes.classes done) (parts_of (shape_at nodes.shapes c))) where
  abbrev more : List ℕ
  more = done ++ c ∷ []

  weaker : (ps : List ℕ) → Each (IsAmong nodes.classes done) ps → Each (IsAmong nodes.classes more) ps
  weaker ps each = each_weaker (IsAmong nodes.classes done) (IsAmong nodes.classes more) (λ p one. one_in_front (λ d. d ≡ class_at nodes.classes p) done (c ∷ []) one) ps each

  old_or_new : (n : ℕ) → IsAmong nodes.classes more n → IsAmong nodes.classes done n ⊎ (c ≡ class_at nodes.classes n)
  old_or_new n one =
      ⊎_elim (λ (a : IsAmong nodes.classes done n). inl a) (λ (e : (c ≡ class_at nodes.classes n) ⊎ ⊥). ⊎_elim (λ (s : c ≡ class_at nodes.classes n). inr s) (λ (wrong : ⊥). absurd wrong) e)
      (one_of_both (λ d. d ≡ class_at nodes.classes n) done (c ∷ []) one)

  closed_more : (n : ℕ) → n < length nodes.shapes → IsAmong nodes.classes more n → Each (IsAmong nodes.classes more) (parts_of (class_shape nodes n))
  closed_more n below one =
      ⊎_elim (λ (a : IsAmong nodes.classes done n). weaker (parts_of (class_shape nodes n)) (read.closed n below a))
      (λ (e : c ≡ class_at nodes.classes n). subst (λ k. Each (IsAmong nodes.classes more) (parts_of (shape_at nodes.shapes k))) e (weaker (parts_of (shape_at nodes.shapes c)) among))
      (old_or_new n one)

  -- where the nodes of its class are read
  done_more : (others : List Level) (placed : List ℕ) → AreBelow others →
      ((n : ℕ) → n < length nodes.shapes → (c ≡ class_at nodes.classes n → ⊥) → IsReadAt nodes numbers levels places n → IsReadAt nodes numbers others placed n) →
      ((kind : ℕ → Kind) → AreKinded nodes.shapes nodes.classes kind → (n : ℕ) → n < length nodes.shapes → c ≡ class_at nodes.classes n → kind n ≡ OfTypes → IsReadAt nodes numbers others placed n) →
      AreRead nodes numbers others placed more
  done_more others placed below old new = record {
    below = below;
    closed = closed_more;
    types = λ kind kinded n node is one.
        ⊎_elim (λ (e : c ≡ class_at nodes.classes n). new kind kinded n node e is)
        (λ (never : c ≡ class_at nodes.classes n → ⊥).
        old n node never
        (read.types kind kinded n node is (⊎_elim (λ (a : IsAmong nodes.classes done n). a) (λ (e : c ≡ class_at nodes.classes n). absurd (never e)) (old_or_new n one))))
        (cases_eq c (class_at nodes.classes n));
  }

  -- it isn't the name of a class
  pub done_other : ((n : ℕ) → n < length nodes.shapes → class_at nodes.classes (class_at nodes.classes n) ≡ class_at nodes.classes n) → (class_at nodes.classes c ≡ c → ⊥) → AreRead nodes numbers levels places more
  done_other named never =
      done_more levels places read.below (λ n node apart old. old)
      (λ kind kinded n node e is. absurd (never (ap (class_at nodes.classes) e ∙ named n node ∙ sym e)))

  -- it is a class of rows
  pub done_row : (fuel : ℕ) → c < length nodes.shapes → IsLevelFor nodes numbers places fuel c (shape_at nodes.shapes c) None → AreRead nodes numbers levels places more
  done_row fuel within level =
      done_more levels places read.below (λ n node apart old. old)
      (λ kind kinded n node e is.
      absurd (no_row kind (shape_at nodes.shapes c) level (subst (λ k. HasKind kind k (shape_at nodes.shapes c)) (ap kind e ∙ (kinded n node).0 ∙ is) (kinded c within).1)))
    where
      no_row : (kind : ℕ → Kind) (s : Shape) → IsLevelFor nodes numbers places fuel c s None → HasKind kind OfTypes s → ⊥
      no_row kind Free level has = level
      no_row kind (Made h ps) level has = level
      no_row kind Open level has = has
      no_row kind Empty level has = has
      no_row kind (shape.Row fs t) level has = has

  -- it has this level
  module _ (fuel : ℕ) (can : CanReadNodes nodes numbers fuel) (l : Level) (many : length places ≡ length nodes.shapes) (within : c < length nodes.shapes) (named : class_at nodes.classes c ≡ c)
      (level : IsLevelFor nodes numbers places fuel c (shape_at nodes.shapes c) (Some l)) where
    abbrev others : List Level
    others = levels ++ l ∷ []

    abbrev placed : List ℕ
    placed = set places c (length levels)

    longer : length others ≡ length levels + 1
    longer = length-append levels (l ∷ [])

    kept : (n : ℕ) → n < length nodes.shapes → (c ≡ class_at nodes.classes n → ⊥) → IsReadAt nodes numbers levels places n → IsReadAt nodes numbers others placed n
    kept n node apart old =
        let same : place_of nodes placed n ≡ place_of nodes places n = get_or-set_other places c (class_at nodes.classes n) (length levels) 0 (λ e. apart (sym e)) in
        record {
          placed = subst (λ p. p < length others) (sym same) (let less : place_of nodes places n < length levels = old.placed in omega (arith, longer));
          stands = λ u own.
              ap (at (built others)) same
              ∙ built_front levels (l ∷ []) (place_of nodes places n) old.placed
              ∙ old.stands u own;
        }

    here : (kind : ℕ → Kind) → AreKinded nodes.shapes nodes.classes kind → (n : ℕ) → n < length nodes.shapes → c ≡ class_at nodes.classes n → kind n ≡ OfTypes → IsReadAt nodes numbers others placed n
    here kind kinded n node e is =
        let at_c : place_of nodes placed n ≡ length levels = ap (λ k. get_or placed k 0) (sym e) ∙ get_or-set_same places c (length levels) 0 (subst (λ k. c < k) (sym many) within) in
        record {
          placed = subst (λ p. p < length others) (sym at_c) (omega (arith, longer));
          stands = λ u own.
              ap (at (built others)) at_c
              ∙ built_last levels l
              ∙ level_stands nodes numbers fuel can levels places done read kind kinded c l within named level among (ap kind e ∙ (kinded n node).0 ∙ is) u own
              ∙ ap type_in (ap u e ∙ sym (own.fits.respects n (subst (λ k. n < k) (sym can.arena.named.count) node)));
        }

    pub done_level : AreRead nodes numbers others placed more
    done_level =
        done_more others placed (below_more levels l read.below (level_below nodes numbers fuel can levels places done read can.kind can.kinded c l within named level among)) kept here

-- ---- all classes

-- the places in the order are ranks
pub nodes_can : (nodes : Arena) (numbers order asked : List ℕ) → CanReadAll nodes numbers order asked → CanReadNodes nodes numbers (length order)
nodes_can nodes numbers order asked can =
    let ranks = places nodes.shapes nodes.classes order can.arena can.order_is in
    record {
      arena = can.arena;
      count = can.count;
      kind = can.kind;
      kinded = can.kinded;
      rank = ranks.0;
      ranked = ranks.1;
      room = ranks.2;
    }

module _ (nodes : Arena) (numbers order asked : List ℕ) (can : CanReadAll nodes numbers order asked) (levels : List Level) (places : List ℕ) (read : AreRead nodes numbers levels places order) where
  at_node : (n : ℕ) → n < length nodes.shapes → can.kind n ≡ OfTypes → IsReadAt nodes numbers levels places n
  at_node n below is =
      read.types can.kind can.kinded n below is (can.order_is.whole (class_at nodes.classes n) (can.arena.named.below n below) (can.arena.named.named n below))

  all_below : (ns : List ℕ) → Each (λ n. n < length nodes.shapes) ns → Each (λ n. can.kind n ≡ OfTypes) ns → Each (λ p. p < length levels) (map (place_of nodes places) ns)
  all_below [] below types = tt
  all_below (n ∷ ns) below types = ((at_node n below.0 types.0).placed, all_below ns below.1 types.1)

  pub roots_table : IsTable levels (map (place_of nodes places) asked)
  roots_table = record { below = read.below; roots_below = all_below asked can.below can.types }

  module _ (u : ℕ → Value) (own : IsOwn nodes.shapes nodes.classes (name_in numbers) u) where
    all_stand : (ns : List ℕ) → Each (λ n. n < length nodes.shapes) ns → Each (λ n. can.kind n ≡ OfTypes) ns → types_at levels (map (place_of nodes places) ns) ≡ map (λ n. type_in (u n)) ns
    all_stand [] below types = refl
    all_stand (n ∷ ns) below types =
        ap (λ t. t ∷ types_at levels (map (place_of nodes places) ns)) ((at_node n below.0 types.0).stands u own)
        ∙ ap (λ ts. type_in (u n) ∷ ts) (all_stand ns below.1 types.1)

    pub roots_stand : types_at levels (map (place_of nodes places) asked) ≡ map (λ n. type_in (u n)) asked
    roots_stand = all_stand asked can.below can.types
