-- The kinds of what a walk makes of loops: the row of a loop looks at itself, and the body may look at it, too.
use Rattle.std.proofs.Common.{◌≡◌, ℕ, ◌<◌, ◌==◌, Bool, true, false, [], ◌∷◌, ◌++◌, length, if◌then◌else◌, refl, sym, ◌∙◌, ap, subst}
use Rattle.lk_ast.specs.declared.expression.Expr.{Expr}
use Rattle.lk_ast.specs.declared.place.Word.{Word}
use Rattle.lk_bodies.specs.Shapes.{columns_of, labels}
use Rattle.lk_bodies.specs.Walk.{Calls, Made, State, add, behind_type, loop, walk}
use Rattle.lk_ground_types.specs.Shapes.{are_rows, is_flat_row}
use Rattle.lk_inline.proofs.Adding.{at_end, still_within}
use Rattle.lk_inline.proofs.KindForms.{is_list_kind, list_kind, record_columns, row_kind}
use Rattle.lk_inline.proofs.KindOperands.{own_part}
use Rattle.lk_inline.proofs.KindSteps.{adds_both, adds_one, from_behind_type, kind_added, kind_behind, known_bound, known_later, known_wider, next_seen, seen_later, with_part, with_same}
use Rattle.lk_inline.proofs.KindsMade.{Adds, AreDescribed, AreKnown, Described, Descriptions, IsKinded, IsSeen, Scope, described}
use Rattle.lk_inline.proofs.Making.{left}
use Rattle.lk_inline.specs.KindsOfTypes.{kind_of_type}
use Rattle.lk_query.proofs.Parts.{bind-here, bind-other}
use Rattle.lk_query.specs.Kinds.{HasColumns, HasUnder, IsNoList, OfList, OfRecord}
use Rattle.lk_query.specs.Order.{AreOrdered, bind}
use Rattle.lk_query.specs.declared.part.Part.TheVariants as part
use Rattle.lk_sites.specs.Pending.{Pending}
use Rattle.lk_types.specs.Rows.{Label}
use Rattle.lk_types.specs.declared.ground.Ground.{Ground}
use Rattle.lk_types.specs.declared.ground.Ground.TheVariants as known_type
use Rattle.lk_typing.specs.Names.{Named}

-- what may be looked at in the body of a loop whose row has this number
abbrev pub with_row : ℕ → Scope → Scope
with_row n scope = bind n true scope

pub row_wider : (n : ℕ) (scope : Scope) (j : ℕ) → scope j ≡ true → with_row n scope j ≡ true
row_wider n scope j is = by (j == n)
  where
    by : (b : Bool) → (if b then true else scope j) ≡ true
    by true = refl
    by false = is

module _ (scope : Scope) (scans : Bool) (a : Ground) (flat : is_flat_row a ≡ true) (known : Descriptions) (locals : Named Ground) (numbers : Named ℕ) (s : State) (q : Pending) (m : Made) (one : IsKinded scope scans (known_type.List a) known s q m) where
  abbrev n : ℕ
  n = length m.state.parts

  -- with the loop's row
  abbrev pub with_loop : Descriptions
  with_loop = with_part one.has.later n (kind_of_type a) (with_row n scope)

  pub row_added : Adds scans one.has.later m.state.parts with_loop (m.state.parts ++ part.Bound ∷ [])
  row_added =
      adds_one scans one.has.later m.state.parts part.Bound (kind_of_type a) (with_row n scope) one.has.adds.ordered one.has.adds.typed tt
      (subst IsNoList (sym (row_kind a flat)) tt, ap (λ (d : Described). d.looks n) (bind-here n (described (kind_of_type a) (with_row n scope)) one.has.later) ∙ bind-here n true scope) (record_columns a flat) (λ off. refl)

  -- the names in the body
  pub row_known : (x : Label) → AreKnown scope known locals numbers s.parts → AreKnown (with_row n scope) with_loop ((x, a) ∷ locals) ((x, n) ∷ numbers) (m.state.parts ++ part.Bound ∷ [])
  row_known x have =
      known_bound x a n (with_row n scope) with_loop locals numbers (m.state.parts ++ part.Bound ∷ []) (at_end m.state.parts part.Bound)
      (next_seen one.has.later n (kind_of_type a) (with_row n scope) (with_row n scope) (λ j looked. looked))
      (known_wider scope (with_row n scope) with_loop locals numbers (m.state.parts ++ part.Bound ∷ []) (row_wider n scope)
      (known_later scope known with_loop locals numbers s.parts (m.state.parts ++ part.Bound ∷ []) scans (adds_both one.has.adds row_added) have))

  -- the loop, behind its row and its body
  pub loop_kinded : (b : Ground) (r : Pending) (inner : Made) → are_rows (known_type.List b) ≡ true → HasColumns (kind_of_type (known_type.List b)) → IsKinded (with_row n scope) scans (known_type.List b) with_loop (add part.Bound m.state).state r inner
      → IsKinded scope scans (known_type.List b) known s r (add (part.ForList m.part n inner.part) inner.state)
  loop_kinded b r inner rows columns next = record {
    left = next.left;
    has =
        kind_behind scope scans t known later s.parts inner.state.parts end (inner.state.parts ++ part.ForList m.part n inner.part ∷ []) (adds_both (adds_both one.has.adds row_added) next.has.adds)
        (kind_added scope scans t later inner.state.parts (part.ForList m.part n inner.part) next.has.adds.ordered next.has.adds.typed (list_there, row_there, next.has.within) (
          is_list_kind t rows,
          (
            labels (columns_of a),
            own_part later end (kind_of_type t) scope (known_type.List a) (OfList (labels (columns_of a))) m.part (list_kind a) list_there list_seen,
            ap (λ (d : Described). d.kind) (with_same later end (kind_of_type t) scope n row_there) ∙ row_is,
            body_has,
          ),
        ) columns (λ off. refl));
  }
    where
      t : Ground
      t = known_type.List b

      later : Descriptions
      later = next.has.later

      end : ℕ
      end = length inner.state.parts

      row_there : n < end
      row_there = still_within next.has.adds.grows n (at_end m.state.parts part.Bound)

      list_there : m.part < end
      list_there = still_within next.has.adds.grows m.part (still_within row_added.grows m.part one.has.within)

      list_seen : IsSeen later scope (kind_of_type (known_type.List a)) m.part
      list_seen =
          seen_later one.has.later later scope (kind_of_type (known_type.List a)) m.part
          (next.has.adds.same m.part (still_within row_added.grows m.part one.has.within) ∙ row_added.same m.part one.has.within) one.has.is

      row_is : (later n).kind ≡ OfRecord (labels (columns_of a))
      row_is =
          ap (λ (d : Described). d.kind) (next.has.adds.same n (at_end m.state.parts part.Bound) ∙ bind-here n (described (kind_of_type a) (with_row n scope)) one.has.later)
          ∙ row_kind a flat

      body_has : HasUnder (λ k. (with_part later end (kind_of_type t) scope k).kind) (λ k. (with_part later end (kind_of_type t) scope k).looks) end n (kind_of_type t) inner.part
      body_has = (
        ap (λ (d : Described). d.kind) (with_same later end (kind_of_type t) scope inner.part next.has.within) ∙ next.has.is.0,
        λ j looked other.
            ap (λ (d : Described). d.looks j) (bind-here end (described (kind_of_type t) scope) later)
            ∙ sym (bind-other n j true scope other)
            ∙ next.has.is.1 j (ap (λ (d : Described). d.looks j) (sym (with_same later end (kind_of_type t) scope inner.part next.has.within)) ∙ looked),
      )

-- a walk of such a form, with what it makes of the body, whatever is known there
pub loop_form : (scope : Scope) (scans : Bool) (makes : Calls) (e : Expr) (numbers : Named ℕ) (known : Descriptions) (s : State) (locals : Named Ground) (x : Word) (d body : Expr) (a b : Ground) (q r : Pending)
    → walk makes e numbers s ≡ loop x (walk makes d) (walk makes body) numbers (behind_type s) → is_flat_row a ≡ true → are_rows (known_type.List b) ≡ true → HasColumns (kind_of_type (known_type.List b)) → AreKnown scope known locals numbers s.parts
    → IsKinded scope scans (known_type.List a) known (behind_type s) q (walk makes d numbers (behind_type s))
    → ((inside : Scope) (later : Descriptions) (names : Named ℕ) (bound : State) → left bound ≡ q → AreOrdered bound.parts → AreDescribed later bound.parts → AreKnown inside later ((x.text, a) ∷ locals) names bound.parts
    → IsKinded inside scans (known_type.List b) later bound r (walk makes body names bound))
    → IsKinded scope scans (known_type.List b) known s r (walk makes e numbers s)
loop_form scope scans makes e numbers known s locals x d body a b q r walk_is flat rows columns have one next =
    let m : Made = walk makes d numbers (behind_type s) in
    let n : ℕ = length m.state.parts in
    let bound : State = (add part.Bound m.state).state in
    let names : Named ℕ = (x.text, n) ∷ numbers in
    let row = row_added scope scans a flat known locals numbers (behind_type s) q m one in
    subst (λ w. IsKinded scope scans (known_type.List b) known s r w) (sym walk_is)
    (from_behind_type scope scans (known_type.List b) known s r (add (part.ForList m.part n (walk makes body names bound).part) (walk makes body names bound).state)
    (loop_kinded scope scans a flat known locals numbers (behind_type s) q m one b r (walk makes body names bound) rows columns
    (next (with_row n scope) (with_loop scope scans a flat known locals numbers (behind_type s) q m one) names bound one.left row.ordered row.typed (row_known scope scans a flat known locals numbers (behind_type s) q m one x.text have))))
