-- Names with values that stand for those of the same names: one more, several, and what a lambda, a query or a change of a table
-- captures.
use Rattle.std.proofs.Common.{◌≡◌, refl, sym, ap, subst, suc, Bool, true, false, cond, ◌==◌, if◌then◌else◌, List, [], ◌∷◌, map, length, bytes_eq, Option, Some, None}
use Rattle.std.specs.Cmp.Lexicographic.{slice_cmp}
use Rattle.std.specs.FinMap.{get-empty}
use Rattle.std.specs.Ordering.{nat_cmp}
use Rattle.lk_ast.specs.declared.place.Word.{Word}
use Rattle.lk_ast.specs.declared.value.Value.{Value}
use Rattle.lk_evaluation.specs.Laws.{Both, Maybe}
use Rattle.lk_locals.specs.Names.{Names, no_names, bind, lookup, with_value, lookup_all, bind_each, bind_all}
use Rattle.lk_types.specs.Rows.{Label}
use Rattle.lk_sound.proofs.Bindings.{lookup_bound}
use Rattle.lk_ground.specs.Alike.{Alike, AllAlike, none, more}
use Rattle.lk_ground.specs.Law.{NamesAlike}
use Rattle.lk_ground.specs.declared.program.GroundProgram.{GroundProgram}

module _ (p : GroundProgram) where
  -- ---- lists of values

  pub all_of_both : (values others : List Value) → Both (Alike p) values others → AllAlike p values others
  all_of_both [] [] all = none
  all_of_both [] (w ∷ others) all = absurd all
  all_of_both (v ∷ values) [] all = absurd all
  all_of_both (v ∷ values) (w ∷ others) (alike, all) = more alike (all_of_both values others all)

  pub both_of_all : (values others : List Value) → AllAlike p values others → Both (Alike p) values others
  both_of_all _ _ none = tt
  both_of_all _ _ (more alike all) = (alike, both_of_all _ _ all)

  pub as_many : (values others : List Value) → AllAlike p values others → length values ≡ length others
  as_many _ _ none = refl
  as_many _ _ (more alike all) = ap suc (as_many _ _ all)

  -- ---- names

  by_test : (b : Bool) (v w : Value) (o q : Option Value) → Alike p v w → Maybe (Alike p) o q → Maybe (Alike p) (cond b (Some v) o) (cond b (Some w) q)
  by_test true v w o q alike rest = alike
  by_test false v w o q alike rest = rest

  pub bound_alike : (x : Label) (v w : Value) (names others : Names) → Alike p v w → NamesAlike p names others → NamesAlike p (bind x v names) (bind x w others)
  bound_alike x v w names others alike are y =
      subst (λ o. Maybe (Alike p) o (lookup (bind x w others) y)) (sym (lookup_bound x v names y))
      (subst (λ q. Maybe (Alike p) (cond (bytes_eq x y) (Some v) (lookup names y)) q) (sym (lookup_bound x w others y))
      (by_test (bytes_eq x y) v w (lookup names y) (lookup others y) alike (are y)))

  pub each_alike : (xs : List Label) (values rest : List Value) (names others : Names) → AllAlike p values rest → NamesAlike p names others → NamesAlike p (bind_each names xs values) (bind_each others xs rest)
  each_alike [] values rest names others all are = are
  each_alike (x ∷ xs) _ _ names others none are = are
  each_alike (x ∷ xs) _ _ names others (more {v} {w} {values} {others = rest} alike all) are = each_alike xs values rest (bind x v names) (bind x w others) all (bound_alike x v w names others alike are)

  -- the arguments under the parameters, as many on both sides or not
  pub all_bound : (params : List Word) (values rest : List Value) (names others : Names) → AllAlike p values rest → NamesAlike p names others → Maybe (NamesAlike p) (bind_all names params values) (bind_all others params rest)
  all_bound params values rest names others all are =
      subst (λ n. Maybe (NamesAlike p) (bind_all names params values) (if length params == n then Some (bind_each others (map (λ x. x.text) params) rest) else None)) (as_many values rest all)
      (by_count (length params == length values) (each_alike (map (λ x. x.text) params) values rest names others all are))
    where
      by_count : (b : Bool) → NamesAlike p (bind_each names (map (λ x. x.text) params) values) (bind_each others (map (λ x. x.text) params) rest)
          → Maybe (NamesAlike p) (if b then Some (bind_each names (map (λ x. x.text) params) values) else None) (if b then Some (bind_each others (map (λ x. x.text) params) rest) else None)
      by_count true are = are
      by_count false are = tt

  -- ---- several names

  with_both : (o q : Option Value) (os qs : Option (List Value)) → Maybe (Alike p) o q → Maybe (AllAlike p) os qs → Maybe (AllAlike p) (with_value o os) (with_value q qs)
  with_both None None os qs one all = tt
  with_both None (Some w) os qs one all = absurd one
  with_both (Some v) None os qs one all = absurd one
  with_both (Some v) (Some w) None None one all = tt
  with_both (Some v) (Some w) None (Some ws) one all = absurd all
  with_both (Some v) (Some w) (Some vs) None one all = absurd all
  with_both (Some v) (Some w) (Some vs) (Some ws) one all = more one all

  pub all_looked_up : (xs : List Label) (names others : Names) → NamesAlike p names others → Maybe (AllAlike p) (lookup_all names xs) (lookup_all others xs)
  all_looked_up [] names others are = none
  all_looked_up (x ∷ xs) names others are = with_both (lookup names x) (lookup others x) (lookup_all names xs) (lookup_all others xs) (are x) (all_looked_up xs names others are)

  pub no_names_alike : NamesAlike p no_names no_names
  no_names_alike x = subst (λ o. Maybe (Alike p) o o) (sym (get-empty (slice_cmp nat_cmp) x)) tt
