-- Local names with values that fit: one name more, and several at once.
use Rattle.std.proofs.Common.{◌≡◌, refl, sym, ◌∙◌, ap, subst, rules, ℕ, Bool, true, false, cond, List, [], ◌∷◌, ◌++◌, if◌then◌else◌, Option, Some, bytes_eq, inl, inr}
use Rattle.std.proofs.lemmas.Cmp.{nat_list_cmp_total}
use Rattle.std.proofs.lemmas.Map.Text.{is_eq-slice_cmp}
use Rattle.std.proofs.lemmas.Slice.Eq.{bytes_eq-Decides}
use Rattle.std.specs.FinMap as finite
use Rattle.lk_ast.specs.declared.declaration.Program.{Program}
use Rattle.lk_ast.specs.declared.value.Value.{Value}
use Rattle.lk_locals.specs.Names.{Names, bind, bind_each, lookup}
use Rattle.lk_types.specs.Rows.{Label}
use Rattle.lk_types.specs.declared.ground.Ground.{Ground}
use Rattle.lk_typing.specs.Names.{Named, named, names_of, types_of}
use Rattle.lk_sound.specs.Instances.{Instances}
use Rattle.lk_sound.specs.Points.{AreLocals}
use Rattle.lk_sound.specs.Values.{Fits, FitEach, one_more}
use Rattle.lk_sound.proofs.Names.{IsAmong, AreDistinct}

swapped : (xs ys : List ℕ) → bytes_eq xs ys ≡ bytes_eq ys xs
swapped xs ys = search rules

pub same_bytes : (xs ys : List ℕ) → bytes_eq xs ys ≡ true → xs ≡ ys
same_bytes xs ys is = (bytes_eq-Decides xs ys).0 is

pub lookup_bound : (x : Label) (v : Value) (names : Names) (y : Label) → lookup (bind x v names) y ≡ cond (bytes_eq x y) (Some v) (lookup names y)
lookup_bound x v names y = finite.get-insert nat_list_cmp_total names x v y ∙ ap (λ b. cond b (Some v) (lookup names y)) (is_eq-slice_cmp y x ∙ swapped y x)

-- ---- one name

by_test : (p : Program) (i : Instances) (b : Bool) (v : Value) (a t : Ground) (type : Option Ground) (value : Option Value) → Fits p i v a
    → (type ≡ Some t → (w : Value) × (value ≡ Some w) × Fits p i w t) → (if b then Some a else type) ≡ Some t → (w : Value) × (cond b (Some v) value ≡ Some w) × Fits p i w t
by_test p i true v a t type value fits other is = let same : a ≡ t = cc in (v, refl, subst (λ x. Fits p i v x) same fits)
by_test p i false v a t type value fits other is = other is

-- one name more, which hides an outer one
pub bound_one : (p : Program) (i : Instances) (x : Label) (v : Value) (a : Ground) (locals : Named Ground) (names : Names) → Fits p i v a → AreLocals p i locals names → AreLocals p i ((x, a) ∷ locals) (bind x v names)
bound_one p i x v a locals names fits are y t is =
    let found : (w : Value) × (cond (bytes_eq x y) (Some v) (lookup names y) ≡ Some w) × Fits p i w t = by_test p i (bytes_eq x y) v a t (named y locals) (lookup names y) fits (are y t) is in
    (found.0, lookup_bound x v names y ∙ found.1, found.2)

-- ---- several names

step_behind : (b c : Bool) (a u : Ground) (o q : Option Ground) → (b ≡ true → c ≡ true → ⊥) → o ≡ (if c then Some a else q) → (if b then Some u else o) ≡ (if c then Some a else (if b then Some u else q))
step_behind true true a u o q apart is = absurd (apart refl refl)
step_behind true false a u o q apart is = refl
step_behind false c a u o q apart is = is

-- an entry under a name that none of the others has may stand behind them
pub moved : (y x : Label) (a : Ground) (others locals : Named Ground) → (IsAmong x (names_of others) → ⊥) → named y (others ++ (x, a) ∷ locals) ≡ named y ((x, a) ∷ (others ++ locals))
moved y x a [] locals apart = refl
moved y x a (entry ∷ others) locals apart =
    step_behind (bytes_eq entry.0 y) (bytes_eq x y) a entry.1 (named y (others ++ (x, a) ∷ locals)) (named y (others ++ locals))
    (λ b c. apart (inl (same_bytes entry.0 y b ∙ sym (same_bytes x y c))))
    (moved y x a others locals (λ among. apart (inr among)))

-- values under names of which none is there twice
pub bound_each : (p : Program) (i : Instances) (params : Named Ground) (values : List Value) (locals : Named Ground) (names : Names) → AreDistinct (names_of params) → FitEach p i values (types_of params) → AreLocals p i locals names
    → AreLocals p i (params ++ locals) (bind_each names (names_of params) values)
bound_each p i [] [] locals names distinct fit are y t is = are y t is
bound_each p i [] (v ∷ values) locals names distinct fit are y t is = are y t is
bound_each p i (entry ∷ params) [] locals names distinct fit are y t is = elim fit [ ]
bound_each p i (entry ∷ params) (v ∷ values) locals names (apart, distinct) (one_more fits fit) are y t is =
    bound_each p i params values ((entry.0, entry.1) ∷ locals) (bind entry.0 v names) distinct fit (bound_one p i entry.0 v entry.1 locals names fits are) y t (moved y entry.0 entry.1 params locals apart ∙ is)
