-- What a point does, where readings are answered legally in any order, comes to a value but for order; and tables whose rows are listed
-- otherwise.
use Rattle.std.proofs.Common.{◌≡◌, refl, sym, ap, ◌∙◌, subst, ℕ, Bool, true, false, ◌&&◌, List, [], ◌∷◌, Some, IsPermutation}
use Rattle.std.specs.List.{list_all}
use Rattle.std.proofs.lemmas.Bool.{both_ways}
use Rattle.lk_ast.specs.Functions.{function_named}
use Rattle.lk_ast.specs.Tables.{Tables, table_defs, all_fit, row_fits}
use Rattle.lk_ast.specs.declared.declaration.Program.{Program}
use Rattle.lk_ast.specs.declared.place.Loc.TheVariants.{Server}
use Rattle.lk_ast.specs.declared.place.Span.{Span}
use Rattle.lk_ast.specs.declared.table.TableDef.{TableDef}
use Rattle.lk_ast.specs.declared.value.Value.{Value}
use Rattle.lk_ast.specs.declared.value.Value.TheVariants as value
use Rattle.lk_bag.specs.Bag.{value_of, items, chosen}
use Rattle.lk_bag.specs.Legal.{AreSame}
use Rattle.lk_evaluation.specs.Evaluation.{Act, Give, perform, eval}
use Rattle.lk_evaluation.specs.Laws.{Both}
use Rattle.lk_evaluation.specs.Source.{Point, source, call, choose, done}
use Rattle.lk_operators.specs.Values.{bool_in}
use Rattle.lk_operators.specs.declared.outcome.Outcome.{Outcome}
use Rattle.lk_operators.specs.declared.outcome.Outcome.TheVariants as outcome
use Rattle.lk_sound.proofs.QueryParts.{IsEarly}
use Rattle.lk_sound.proofs.Results.{IsResult}
use Rattle.lk_sound.proofs.Shapes.{bool_of_fits, fits_list}
use Rattle.lk_sound.specs.Instances.{Instances}
use Rattle.lk_sound.specs.Nodes.{Use}
use Rattle.lk_sound.specs.Tables.{AreTables}
use Rattle.lk_sound.specs.Values.{Fits, FitEach}
use Rattle.lk_types.specs.Each.{Each}
use Rattle.lk_types.specs.Rows.{EffectSet}
use Rattle.lk_types.specs.declared.ground.Ground.{Ground}
use Rattle.lk_types.specs.declared.ground.Ground.TheVariants as known
use Rattle.lk_types.specs.declared.ty.Effect.TheVariants as effect
use Rattle.lk_typing.specs.Types.{function_of}
use Rattle.lk_queries.specs.Law.{AtMostScan}
use Rattle.lk_queries.specs.Order.{IsLike}
use Rattle.lk_queries.proofs.Coming.{Comes, gone}
use Rattle.lk_queries.proofs.Liking.{like_itself}
use Rattle.lk_inline.proofs.Loops.{items_shown}
use Rattle.lk_sound.proofs.Shuffles.{along}

-- ---- tables in another order

all_kept : {A : Type 0} (test : A → Bool) (xs ys : List A) → IsPermutation xs ys → list_all test xs ≡ true → list_all test ys ≡ true
all_kept test = along (λ xs ys. list_all test xs ≡ true → list_all test ys ≡ true)
    (λ xs all. all)
    (λ x xs ys later all. joined (test x) (list_all test xs) (list_all test ys) later all)
    (λ x y xs all. turned (test x) (test y) (list_all test xs) all)
    (λ xs ys zs first second all. second (first all))
  where
    joined : (b c d : Bool) → (c ≡ true → d ≡ true) → (b && c) ≡ true → (b && d) ≡ true
    joined true c d later all = later all
    joined false c d later all = all

    turned : (b c d : Bool) → (b && (c && d)) ≡ true → (c && (b && d)) ≡ true
    turned true c d all = all
    turned false c d all = absurd cc

-- rows that fit fit in any order
pub same_tables : (p : Program) (tables listed : Tables) → AreSame tables listed → AreTables p tables → AreTables p listed
same_tables p tables listed shuffle all = of_defs (table_defs p) all
  where
    of_defs : (defs : List TableDef) → Each (λ (def : TableDef). all_fit def (tables def.name) ≡ true) defs → Each (λ (def : TableDef). all_fit def (listed def.name) ≡ true) defs
    of_defs [] all = tt
    of_defs (def ∷ defs) all = (all_kept (row_fits def) (tables def.name) (listed def.name) (shuffle def.name) all.0, of_defs defs all.1)

-- a list is the list of its elements
pub as_list : (p : Program) (i : Instances) (v : Value) (a : Ground) → Fits p i v (known.List a) → v ≡ value.List (items v)
as_list p i v a fits = let held = fits_list p i v a fits in held.1 ∙ ap value.List (sym (items_shown held.0) ∙ ap items (sym held.1))

-- ---- one and two values

pub one_of : (v : Value) (ws : List Value) → Both IsLike ws (v ∷ []) → (w : Value) × (ws ≡ w ∷ []) × IsLike w v
one_of v [] likes = absurd likes
one_of v (w ∷ []) likes = (w, refl, likes.0)
one_of v (w ∷ u ∷ ws) likes = absurd likes.1

pub two_of : (v u : Value) (ws : List Value) → Both IsLike ws (v ∷ u ∷ []) → (w : Value) × (x : Value) × (ws ≡ w ∷ x ∷ []) × IsLike w v × IsLike x u
two_of v u [] likes = absurd likes
two_of v u (w ∷ []) likes = absurd likes.1
two_of v u (w ∷ x ∷ []) likes = (w, x, refl, likes.0, likes.1.0)
two_of v u (w ∷ x ∷ y ∷ ws) likes = absurd likes.1.1

module _ (p : Program) (tables : Tables) where
  -- what a point does comes to this value, but for order
  abbrev pub DoesLike : Value → Act Point → Type 0
  DoesLike v a = Comes p tables Value (λ w. IsLike w v) (perform (source p) (eval (source p)) Server a)

  abbrev pub CallsCome : Instances → (List ℕ → List Value → Value) → ℕ → Type 0
  CallsCome i calls n = (u : Use) → IsEarly p i.helpers n u → (ts : List Ground) (effects : EffectSet) (a : Ground) → u.type ≡ function_of ts effects a → AtMostScan effects
      → (args : List Value) → FitEach p i args ts → (at : Span) → DoesLike (calls u.name args) (call at args (function_named p u.name))

  pub gives_it : (v w : Value) → IsLike w v → DoesLike v (Give w)
  gives_it v w like = gone p tables Value (λ x. IsLike x v) w like

  pub done_come : (i : Instances) (effects : EffectSet) (t : Ground) (o : Outcome) (at : Span) → effects effect.Trap ≡ false → IsResult p i effects t o → DoesLike (value_of o) (done at o)
  done_come i effects t (outcome.Value v) at traps result = gives_it v v (like_itself v)
  done_come i effects t (outcome.Trap trap) at traps result = absurd (both_ways (effects effect.Trap) traps result)
  done_come i effects t outcome.NoRule at traps result = absurd result

  pub choice_come : (i : Instances) (at : Span) (c v w : Value) (one other : Act Point) → Fits p i c known.Bool → DoesLike v one → DoesLike w other → DoesLike (chosen (bool_in c) v w) (choose at (bool_in c) one other)
  choice_come i at c v w one other test first second =
      let found : (b : Bool) × (bool_in c ≡ Some b) = bool_of_fits p i c test in
      subst (λ o. DoesLike (chosen o v w) (choose at o one other)) (sym found.1) (by_test found.0)
    where
      by_test : (b : Bool) → DoesLike (chosen (Some b) v w) (choose at (Some b) one other)
      by_test true = first
      by_test false = second
