-- The tails of two rows become fields before one row: both are one already, neither has more fields, one has, or both.
use Rattle.std.proofs.Common.{◌≡◌, ◌≢◌, ℕ, ◌+◌, ◌<◌, List, [], ◌∷◌, ◌++◌, length, refl, sym, ◌∙◌, ap, subst, arith}
use Rattle.std.proofs.lemmas.List.{nil_from_length}
use Rattle.lk_types.proofs.Members.{each_both, each_front, each_back, each_weaker}
use Rattle.lk_types.specs.Each.{Each}
use Rattle.lk_arena.proofs.Chains.{IsRowOf-nil, IsRowOf-nil_same}
use Rattle.lk_arena.proofs.Covering.{covers_less, covers_with}
use Rattle.lk_arena.proofs.Growth.{IsRowOf-same}
use Rattle.lk_arena.proofs.Joins.{Equates-same, EqualKinds-same, AreNodePairs-more}
use Rattle.lk_arena.proofs.Kinded.{open_kind, fields_same}
use Rattle.lk_arena.specs.Covering.{fields_count}
use Rattle.lk_arena.specs.Kinds.{AreFieldsOf}
use Rattle.lk_classes.specs.Classes.{class_at}
use Rattle.lk_arena.specs.Openings.{OpenRow}
use Rattle.lk_arena.specs.Shapes.{IsArena, IsRowOf, AreNodePairs}
use Rattle.lk_arena.specs.Steps.{Adds, AreTails, CanBind, Binds, JoinsTails}
use Rattle.lk_arena.specs.Values.{Value, OfRow}
use Rattle.lk_arena.specs.declared.node.Field.{Field}
use Rattle.lk_arena.specs.declared.node.Pair.{Pair}
use Rattle.lk_arena.specs.declared.node.Shape.{Shape}
use Rattle.lk_arena.specs.declared.node.Shape.TheVariants.{Open}

module _ (left right : ℕ) (lefts rights : List Field) (shapes : List Shape) (classes : List ℕ) (queue : List Pair) (arena : IsArena shapes classes)
    (pairs : AreNodePairs (length shapes) queue) (tails : AreTails shapes classes left right lefts rights) where
  -- no fields before a row are that row
  same_row : (fs : List Field) (v : ℕ → Value) (x y : Value) → length fs ≡ 0 → IsRowOf fs v y x → x ≡ y
  same_row fs v x y none row = IsRowOf-nil_same v y x (subst (λ fs. IsRowOf fs v y x) (nil_from_length fs none) row)

  no_fields_before : (fs : List Field) (v : ℕ → Value) (m : OpenRow) (x : Value) → length fs ≡ 0 → x ≡ OfRow m → IsRowOf fs v x x
  no_fields_before fs v m x none is = subst (λ fs. IsRowOf fs v x x) (sym (nil_from_length fs none)) (IsRowOf-nil v m x is)

  none_count : (c : ℕ → ℕ) (fs : List Field) (x : ℕ) → length fs ≡ 0 → x ≡ fields_count c fs + x
  none_count c fs x none = let no : fields_count c fs ≡ 0 = ap (fields_count c) (nil_from_length fs none) in omega arith

  -- ---- one tail

  pub join_same : left ≡ right → JoinsTails left right lefts rights shapes classes queue shapes classes queue
  join_same same =
      let none = tails.same same in
      record {
        arena = arena;
        longer = omega arith;
        pairs = pairs;
        back = λ v fits. fits;
        tails = λ v m fits is. (
          v right,
          subst (λ i. IsRowOf lefts v (v right) (v i)) (sym same) (no_fields_before lefts v m (v right) none.0 is),
          no_fields_before rights v m (v right) none.1 is,
        );
        covers = λ c covers. (covers, (c right, ap c same ∙ none_count c lefts (c right) none.0, none_count c rights (c right) none.1));
        forth = λ v m fits row row'. (v, (λ i h. refl), fits);
        kinds = λ kind k kinded equal l r f g. (kind, (λ i h. refl), kinded, equal);
        lighter = omega arith;
      }

  -- ---- no fields more

  pub join_pair : (queue' : List Pair) → queue' ≡ queue ++ record { left = left; right = right } ∷ [] → length lefts ≡ 0 → length rights ≡ 0
      → JoinsTails left right lefts rights shapes classes queue shapes classes queue'
  join_pair queue' is none none' =
      let pair : Pair = record { left = left; right = right } in
      subst (JoinsTails left right lefts rights shapes classes queue shapes classes) (sym is)
      (record {
        arena = arena;
        longer = omega arith;
        pairs = each_both (λ p. (p.left < length shapes) × (p.right < length shapes)) queue (pair ∷ []) pairs ((tails.left_below, tails.right_below), tt);
        back = λ v fits. record { nodes = fits.nodes; equates = each_front (λ p. v p.left ≡ v p.right) queue (pair ∷ []) fits.equates };
        tails = λ v m fits is.
            let e : v left ≡ v right = (each_back (λ p. v p.left ≡ v p.right) queue (pair ∷ []) fits.equates).0 in (
              v right,
              subst (λ x. IsRowOf lefts v (v right) x) (sym e) (no_fields_before lefts v m (v right) none is),
              no_fields_before rights v m (v right) none' is,
            );
        covers = λ c covers.
            let less = covers_less shapes classes queue (pair ∷ []) c covers in
            (less.0, (c right, less.1.0 ∙ none_count c lefts (c right) none, none_count c rights (c right) none'));
        forth = λ v m fits row row'.
            let e : v left ≡ v right = same_row lefts v (v left) (OfRow m) none row ∙ sym (same_row rights v (v right) (OfRow m) none' row') in (
              v,
              (λ i h. refl),
              record { nodes = fits.nodes; equates = each_both (λ p. v p.left ≡ v p.right) queue (pair ∷ []) fits.equates (e, tt) },
            );
        kinds = λ kind k kinded equal l r f g.
            (kind, (λ i h. refl), kinded, each_both (λ p. kind p.left ≡ kind p.right) queue (pair ∷ []) equal (l ∙ sym r, tt));
        lighter = omega arith;
      })

  -- ---- fields more on one side

  module _ (shapes' : List Shape) (classes' : List ℕ) where
    pub join_left : length rights ≡ 0 → Binds left lefts right shapes classes shapes' classes' → JoinsTails left right lefts rights shapes classes queue shapes' classes' queue
    join_left none bound = record {
      arena = bound.arena;
      longer = let c = bound.count in omega arith;
      pairs = subst (λ n. AreNodePairs n queue) (sym bound.count) pairs;
      back = λ v fits. record { nodes = bound.back v fits.nodes; equates = fits.equates };
      tails = λ v m fits is. (v right, bound.row v fits.nodes, no_fields_before rights v m (v right) none is);
      covers = λ c covers.
          let b = bound.covers c covers.nodes in
          (covers_with shapes classes queue c b.0 covers.equal, (c right, b.1, none_count c rights (c right) none));
      forth = λ v m fits row row'.
          let e : v right ≡ OfRow m = same_row rights v (v right) (OfRow m) none row' in (
            v,
            (λ i h. refl),
            record { nodes = bound.forth v fits.nodes (subst (λ y. IsRowOf lefts v y (v left)) (sym e) row); equates = fits.equates },
          );
      kinds = λ kind k kinded equal l r f g.
          (kind, (λ i h. refl), bound.kinds kind kinded (subst (λ k. AreFieldsOf kind k lefts) (sym l) f) (r ∙ sym l), equal);
      lighter = let l = bound.lighter in omega arith;
    }

    pub join_right : length lefts ≡ 0 → Binds right rights left shapes classes shapes' classes' → JoinsTails left right lefts rights shapes classes queue shapes' classes' queue
    join_right none bound = record {
      arena = bound.arena;
      longer = let c = bound.count in omega arith;
      pairs = subst (λ n. AreNodePairs n queue) (sym bound.count) pairs;
      back = λ v fits. record { nodes = bound.back v fits.nodes; equates = fits.equates };
      tails = λ v m fits is.
          let row = bound.row v fits.nodes in
          (v left, no_fields_before lefts v row.tail (v left) none row.tail_is, row);
      covers = λ c covers.
          let b = bound.covers c covers.nodes in
          (covers_with shapes classes queue c b.0 covers.equal, (c left, none_count c lefts (c left) none, b.1));
      forth = λ v m fits row row'.
          let e : v left ≡ OfRow m = same_row lefts v (v left) (OfRow m) none row in (
            v,
            (λ i h. refl),
            record { nodes = bound.forth v fits.nodes (subst (λ y. IsRowOf rights v y (v right)) (sym e) row'); equates = fits.equates },
          );
      kinds = λ kind k kinded equal l r f g.
          (kind, (λ i h. refl), bound.kinds kind kinded (subst (λ k. AreFieldsOf kind k rights) (sym r) g) (l ∙ sym r), equal);
      lighter = let l = bound.lighter in omega arith;
    }

  -- ---- fields more on both sides, before a new row

  module _ (apart : left ≢ right) (fresh : ℕ) (shapes₁ : List Shape) (classes₁ : List ℕ) (new : Adds Open fresh shapes classes shapes₁ classes₁) where
    more : length shapes < length shapes₁
    more = let c = new.count in omega arith

    each_more : (fs : List Field) → Each (λ f. f.node < length shapes) fs → Each (λ f. f.node < length shapes₁) fs
    each_more fs = each_weaker (λ f. f.node < length shapes) (λ f. f.node < length shapes₁) (λ f b. omega (arith, more)) fs

    pub can_bind_first : length lefts ≢ 0 → CanBind shapes₁ classes₁ left lefts fresh
    can_bind_first some = record {
      below = let b = tails.left_below in omega (arith, more);
      named = new.old_classes left tails.left_below ∙ tails.left_named;
      loose = new.old_shapes left tails.left_below ∙ tails.left_loose some;
      tail_below = let e = new.number in omega (arith, more);
      nodes = each_more lefts tails.left_nodes;
      distinct = tails.left_distinct;
      some = some;
    }

    module _ (shapes₂ : List Shape) (classes₂ : List ℕ) (first : Binds left lefts fresh shapes₁ classes₁ shapes₂ classes₂) where
      pub can_bind_second : length rights ≢ 0 → CanBind shapes₂ classes₂ right rights fresh
      can_bind_second some = record {
        below = let b = tails.right_below in let c = first.count in omega (arith, more);
        named = subst (λ cs. class_at cs right ≡ right) (sym first.names) (new.old_classes right tails.right_below ∙ tails.right_named);
        loose = first.others right (λ e. apart (sym e)) ∙ new.old_shapes right tails.right_below ∙ tails.right_loose some;
        tail_below = let e = new.number in let c = first.count in omega (arith, more);
        nodes = subst (λ n. Each (λ f. f.node < n) rights) (sym first.count) (each_more rights tails.right_nodes);
        distinct = tails.right_distinct;
        some = some;
      }

      pub join_both : (shapes₃ : List Shape) (classes₃ : List ℕ) → Binds right rights fresh shapes₂ classes₂ shapes₃ classes₃
          → JoinsTails left right lefts rights shapes classes queue shapes₃ classes₃ queue
      join_both shapes₃ classes₃ second = record {
        arena = second.arena;
        longer = let c = first.count in let d = second.count in omega (arith, more);
        pairs = AreNodePairs-more (length shapes) (length shapes₃) queue (let c = first.count in let d = second.count in omega (arith, more)) pairs;
        back = λ v fits. record { nodes = new.back v (first.back v (second.back v fits.nodes)); equates = fits.equates };
        tails = λ v m fits is. (v fresh, first.row v (second.back v fits.nodes), second.row v fits.nodes);
        covers = λ c covers.
            let b = second.covers c covers.nodes in
            let a = first.covers c b.0 in
            (covers_with shapes classes queue c (new.covers c a.0) covers.equal, (c fresh, a.1, b.1));
        forth = λ v m fits row row'.
            let h = new.forth v (OfRow m) fits.nodes (m, refl) in
            let w = h.0 in
            let same : (fs : List Field) → Each (λ f. f.node < length shapes) fs → Each (λ f. w f.node ≡ v f.node) fs =
            λ fs. each_weaker (λ f. f.node < length shapes) (λ f. w f.node ≡ v f.node) (λ f b. h.1 f.node b) fs in
            let low : (fs : List Field) (i : ℕ) → i < length shapes → Each (λ f. f.node < length shapes) fs → IsRowOf fs v (OfRow m) (v i) → IsRowOf fs w (w fresh) (w i) =
            λ fs i b nodes r. subst (IsRowOf fs w (w fresh)) (sym (h.1 i b)) (IsRowOf-same fs v w (OfRow m) (w fresh) (v i) h.3 (same fs nodes) r) in (
              w,
              h.1,
              record {
                nodes = second.forth w (first.forth w h.2 (low lefts left tails.left_below tails.left_nodes row)) (low rights right tails.right_below tails.right_nodes row');
                equates = Equates-same (length shapes) queue v w h.1 pairs fits.equates;
              },
            );
        kinds = λ kind k kinded equal l r f g.
            let h = new.kinds kind k kinded (open_kind kind k lefts f) in
            let more' = h.0 in
            let left_kind : more' left ≡ k = h.1 left tails.left_below ∙ l in
            let right_kind : more' right ≡ k = h.1 right tails.right_below ∙ r in
            let same : (fs : List Field) → Each (λ f. f.node < length shapes) fs → Each (λ f. more' f.node ≡ kind f.node) fs =
            λ fs. each_weaker (λ f. f.node < length shapes) (λ f. more' f.node ≡ kind f.node) (λ f b. h.1 f.node b) fs in
            let f' : AreFieldsOf more' (more' left) lefts = subst (λ k. AreFieldsOf more' k lefts) (sym left_kind) (fields_same kind more' k lefts (same lefts tails.left_nodes) f) in
            let g' : AreFieldsOf more' (more' right) rights = subst (λ k. AreFieldsOf more' k rights) (sym right_kind) (fields_same kind more' k rights (same rights tails.right_nodes) g) in (
              more',
              h.1,
              second.kinds more' (first.kinds more' h.2 f' (h.3 ∙ sym left_kind)) g' (h.3 ∙ sym right_kind),
              EqualKinds-same (length shapes) queue kind more' h.1 pairs equal,
            );
        lighter = let a = new.heavier in let b = first.lighter in let c = second.lighter in omega arith;
      }
