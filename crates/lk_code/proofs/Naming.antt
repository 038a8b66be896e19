-- Names with values of the types that a context tells: one more, several, and looked up.
use Rattle.std.proofs.Common.{◌≡◌, refl, sym, ap, subst, ◌∙◌, ℕ, Bool, true, false, cond, ◌==◌, List, [], ◌∷◌, Option, Some, length, if◌then◌else◌}
use Rattle.std.proofs.lemmas.Bool.{eqb-true}
use Rattle.lk_ast.specs.declared.value.Value.{Value}
use Rattle.lk_fits.specs.Values.{Fits, FitEach, none_left, one_more}
use Rattle.lk_ir.proofs.Lookups.{bound, equal_self}
use Rattle.lk_ir.specs.Environments.{Env, bind, bind_each, lookup, lookup_all}
use Rattle.lk_ir.specs.Tables.{names_of}
use Rattle.lk_ir.specs.Uses as used
use Rattle.lk_ir.specs.Uses.{Among, IsFreeOf}
use Rattle.lk_ir.specs.declared.nodes.Forms.{Forms}
use Rattle.lk_ir.specs.declared.nodes.Kept.{Kept}
use Rattle.lk_locals.specs.Names.{with_value}
use Rattle.lk_types.proofs.Parts.{same_some}
use Rattle.lk_types.specs.declared.ground.Ground.{Ground}
use Rattle.lk_code.specs.Acting.{FitNames}
use Rattle.lk_code.specs.Parts.{AreDistinct, AreKept, AreNamed, Context, Info, type_in, under_names}

pub apart : (x y : ℕ) → (x == y) ≡ false → x ≡ y → ⊥
apart x y other is = let wrong : true ≡ false = sym (subst (λ z. (x == z) ≡ true) is (equal_self x)) ∙ other in cc

-- a name that isn't among later ones may as well stand behind them
behind : (x : ℕ) (t : Ground) (xs : List ℕ) (ts : List Ground) (c : Context) → (Among x xs → ⊥) → (y : ℕ) → type_in y ((x, t) ∷ under_names xs ts c) ≡ type_in y (under_names xs ts ((x, t) ∷ c))
behind x t [] ts c none y = refl
behind x t (z ∷ xs) [] c none y = refl
behind x t (z ∷ xs) (s ∷ ts) c none y =
    by_tests (x == y) (z == y) refl refl (type_in y (under_names xs ts c))
    ∙ ap (λ o. if z == y then Some s else o) (behind x t xs ts c (λ among. none (used.later among)) y)
  where
    by_tests : (a b : Bool) → (x == y) ≡ a → (z == y) ≡ b → (o : Option Ground) → (if a then Some t else (if b then Some s else o)) ≡ (if b then Some s else (if a then Some t else o))
    by_tests true true one other o = absurd (none (subst (λ n. Among n (z ∷ xs)) (eqb-true z y other ∙ sym (eqb-true x y one)) used.here))
    by_tests true false one other o = refl
    by_tests false true one other o = refl
    by_tests false false one other o = refl

module _ (IsFun : ℕ → Ground → List Ground → Type 0) where
  -- all that the context tells of
  abbrev pub All : ℕ → Type 0
  All x = Unit {0}

  abbrev pub Has : Env → ℕ → Ground → Type 0
  Has names x t = (v : Value) × (lookup names x ≡ Some v) × Fits IsFun v t

  -- ---- one more name

  -- of the names used in what binds the name, the others are used from outside
  pub bound_one : (P Q : ℕ → Type 0) (x : ℕ) (v : Value) (a : Ground) (c : Context) (names : Env) → ((y : ℕ) → IsFreeOf (Some x) y → P y → Q y) → Fits IsFun v a → FitNames IsFun Q c names
      → FitNames IsFun P ((x, a) ∷ c) (bind x v names)
  bound_one P Q x v a c names outside fits fit y uses t told = by_test (x == y) refl told
    where
      by_test : (b : Bool) → (x == y) ≡ b → (if b then Some a else type_in y c) ≡ Some t → Has (bind x v names) y t
      by_test true is told = (v, bound x v names y ∙ ap (λ b. cond b (Some v) (lookup names y)) is, subst (Fits IsFun v) (same_some told) fits)
      by_test false is told =
          let found : Has names y t = fit y (outside y (apart x y is) uses) t told in
          (found.0, bound x v names y ∙ ap (λ b. cond b (Some v) (lookup names y)) is ∙ found.1, found.2)

  -- ---- several names

  pub bound_each : (f : Forms) (info : ℕ → Option Info) (xs : List ℕ) (ts : List Ground) (values : List Value) (c : Context) (names : Env) → AreDistinct f info xs → length xs ≡ length ts → FitEach IsFun values ts → FitNames IsFun All c names
      → FitNames IsFun All (under_names xs ts c) (bind_each names xs values)
  bound_each f info [] ts values c names once long fit_each fit = fit
  bound_each f info (x ∷ xs) [] values c names once long fit_each fit = cc
  bound_each f info (x ∷ xs) (t ∷ ts) [] c names once long fit_each fit = elim fit_each [ ]
  bound_each f info (x ∷ xs) (t ∷ ts) (v ∷ values) c names once long (one_more fits fit_each) fit = λ y uses u told.
      bound_each f info xs ts values ((x, t) ∷ c) (bind x v names) once.1 (let e : length xs ≡ length ts = cc in e) fit_each (bound_one All All x v t c names (λ z free all. tt) fits fit) y tt u
      (sym (behind x t xs ts c once.0 y) ∙ told)

  -- ---- looked up

  -- the values of names, each of the type told
  pub record AreFound (names : Env) (xs : List ℕ) (ts : List Ground) : Type 0 where
    pub values : List Value
    pub are : lookup_all names xs ≡ Some values
    pub fit : FitEach IsFun values ts

  pub found_more : (names : Env) (x : ℕ) (t : Ground) (xs : List ℕ) (ts : List Ground) → Has names x t → AreFound names xs ts → AreFound names (x ∷ xs) (t ∷ ts)
  found_more names x t xs ts one rest = record {
    values = one.0 ∷ rest.values;
    are = ap (λ o. with_value o (lookup_all names xs)) one.1 ∙ ap (with_value (Some one.0)) rest.are;
    fit = one_more one.2 rest.fit;
  }

  pub all_found : (c : Context) (names : Env) (xs : List ℕ) (ts : List Ground) → AreNamed c xs ts → FitNames IsFun (λ x. Among x xs) c names → AreFound names xs ts
  all_found c names [] [] named fit = record { values = []; are = refl; fit = none_left }
  all_found c names [] (t ∷ ts) named fit = absurd named
  all_found c names (x ∷ xs) [] named fit = absurd named
  all_found c names (x ∷ xs) (t ∷ ts) named fit = found_more names x t xs ts (fit x used.here t named.0) (all_found c names xs ts named.1 (λ y among. fit y (used.later among)))

  pub kept_found : (f : Forms) (c : Context) (names : Env) (kept : List Kept) (ts : List Ground) → AreKept f c kept ts → FitNames IsFun (λ x. Among x (names_of kept)) c names → AreFound names (names_of kept) ts
  kept_found f c names [] [] are fit = record { values = []; are = refl; fit = none_left }
  kept_found f c names [] (t ∷ ts) are fit = absurd are
  kept_found f c names (k ∷ kept) [] are fit = absurd are
  kept_found f c names (k ∷ kept) (t ∷ ts) are fit = found_more names k.name t (names_of kept) ts (fit k.name used.here t are.0) (kept_found f c names kept ts are.2 (λ y among. fit y (used.later among)))
