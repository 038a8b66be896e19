-- What is said of a node behind its parts.
use Rattle.std.proofs.Common.{◌≡◌, ℕ, ◌+◌, Bool, true, false, List, [], ◌∷◌, ◌++◌, length, refl, sym, subst, ap, ap₂, ◌∙◌, Option, Some, None, IsSome, is_some}
use native.Mathlib.Omega.{arith}
use Rattle.lk_ast.specs.declared.place.Span.{Span}
use Rattle.lk_types.proofs.Members.{each_front, each_back, each_both}
use Rattle.lk_types.specs.Each.{Each}
use Rattle.lk_types.specs.Grounding.{Grounding, under}
use Rattle.lk_types.specs.Rows.{EffectSet}
use Rattle.lk_types.specs.Solutions.{IsMet}
use Rattle.lk_types.specs.declared.equation.Equation.{Equation}
use Rattle.lk_types.specs.declared.ground.Ground.{Ground}
use Rattle.lk_types.specs.declared.ty.Effect.{Effect}
use Rattle.lk_types.specs.declared.ty.Effects.{Effects}
use Rattle.lk_types.specs.declared.ty.Ty.{Ty}
use Rattle.lk_types.specs.declared.ty.Ty.TheVariants as ty
use Rattle.lk_typing.proofs.EffectRows.{without, has_sound, has_complete}
use Rattle.lk_typing.proofs.Lists.{length_append, stand_front, stand_back, become_more, become_both}
use Rattle.lk_typing.proofs.Meaning.{Letter, plain, effects, Stand, Names, HasEffects, Met, OwnMet}
use Rattle.lk_typing.proofs.Values.{variable_is}
use Rattle.lk_typing.specs.Equations.{Own}
use Rattle.lk_typing.specs.Law.{Become}
use Rattle.lk_typing.specs.Names.{Named}
use Rattle.lk_typing.specs.Steps.{Meets, same_at, typed_at}
use Rattle.lk_typing.specs.Typing.{HasIf}
use Rattle.lk_typing.specs.Walk.{Walked, Told, has_if, ended, all_types}
use Rattle.lk_typing.specs.declared.step.Step.{Step}

pub there_is : {A : Type 0} (o : Option A) → IsSome o → (a : A) × (o ≡ Some a)
there_is None some = cc
there_is (Some a) some = (a, refl)

-- what stands for the variables of a node: these letters, and the node's type behind them
abbrev pub with_node : List Letter → Ground → List Letter
with_node ls t = ls ++ plain t ∷ []

module _ (σ : Grounding) where
  pub equations_met : (at : Span) (equations : List Equation) → Meets σ (same_at at equations) → Each (IsMet σ) equations
  equations_met at [] meets = tt
  equations_met at (e ∷ es) meets = (meets.0, equations_met at es meets.1)

  pub equations_hold : (at : Span) (equations : List Equation) → Each (IsMet σ) equations → Meets σ (same_at at equations)
  equations_hold at [] met = tt
  equations_hold at (e ∷ es) met = (met.0, equations_hold at es met.1)

  pub record EndedMet (steps : List Step) (o : Own) : Type 0 where
    pub before : Meets σ steps
    pub equations : Each (IsMet σ) o.equations
    -- the variable of the node stands for what its type becomes
    pub node : under σ (ty.Var o.next) ≡ under σ o.ty
    pub ty : IsSome (under σ o.ty)

  pub ended_met : (at : Span) (inside : List Ty) (steps : List Step) (o : Own) → Meets σ (ended at inside steps o).steps → EndedMet steps o
  ended_met at inside steps o meets =
      let last : Meets σ (same_at at o.equations ++ typed_at at o.next o.ty ∷ []) = each_back _ steps _ meets in
      let typed : IsMet σ (record { left = ty.Var o.next; right = o.ty }) = (each_back _ (same_at at o.equations) (typed_at at o.next o.ty ∷ []) last).0 in
      record {
        before = each_front _ steps _ meets;
        equations = equations_met at o.equations (each_front _ (same_at at o.equations) _ last);
        node = typed.1 ∙ sym typed.2;
        ty = ap is_some typed.2;
      }

  -- the nodes of one expression, and of another one behind it
  pub nodes_of : (w : Walked) (t : Ground) (ts : List Ground) → under σ w.ty ≡ Some t → Become σ w.inside ts → Become σ (all_types w) (t ∷ ts)
  nodes_of w t ts ty nodes = become_more σ w.ty w.inside t ts ty nodes

  pub nodes_both : (w v : Walked) (t u : Ground) (ts us : List Ground) → under σ w.ty ≡ Some t → Become σ w.inside ts → under σ v.ty ≡ Some u → Become σ v.inside us
      → Become σ (all_types w ++ all_types v) ((t ∷ ts) ++ (u ∷ us))
  nodes_both w v t u ts us ty nodes ty' nodes' = become_both σ (all_types w) (all_types v) (t ∷ ts) (u ∷ us) (nodes_of w t ts ty nodes) (nodes_of v u us ty' nodes')

  pub stand_before : (ls : List Letter) (t : Ground) (n : ℕ) → Stand σ n (with_node ls t) → Stand σ n ls
  stand_before ls t n stands = stand_front σ ls (plain t ∷ []) n stands

  -- a node behind its parts, where the letter behind the others stands for its variable
  pub ended_holds : (at : Span) (inside : List Ty) (steps : List Step) (o : Own) (ls : List Letter) (n : ℕ) (t : Ground) (known_inside : List Ground)
      → Stand σ n (with_node ls t) → Meets σ steps → OwnMet σ o (length ls + n) t → Become σ inside known_inside → Met σ (ended at inside steps o) (length (with_node ls t) + n) t known_inside
  ended_holds at inside steps o ls n t known_inside stands before own nodes =
      let behind : Stand σ o.next (plain t ∷ []) = subst (λ k. Stand σ k (plain t ∷ [])) (sym own.next) (stand_back σ ls (plain t ∷ []) n stands) in
      let node : under σ (ty.Var o.next) ≡ Some t = variable_is σ o.next t behind.0.plain in
      let next : o.next ≡ length ls + n = own.next in
      let sum : length (with_node ls t) ≡ length ls + length (plain t ∷ []) = length_append ls (plain t ∷ []) in
      let last : 1 + o.next ≡ length (with_node ls t) + n = omega arith in
      record {
        next = last;
        met = each_both _ steps _ before (each_both _ (same_at at o.equations) _ (equations_hold at o.equations own.equations) ((t, node, own.ty), tt));
        ty = node;
        nodes = nodes;
      }

-- one name more
pub one_more : (σ : Grounding) (names : Named Ty) (known_names : Named Ground) (x : List ℕ) (t : Ty) (a : Ground)
    → under σ t ≡ Some a → Names σ names known_names → Names σ ((x, t) ∷ names) ((x, a) ∷ known_names)
one_more σ names known_names x t a is all = record { same = ap₂ (λ o rest. (x, o) ∷ rest) is all.same }

-- what is said in between holds, and the numbers end there_is
pub record ToldMet (σ : Grounding) (told : Told) (last : ℕ) : Type 0 where
  pub next : told.next ≡ last
  pub equations : Each (IsMet σ) told.equations

-- ---- that there_is is an effect, if something holds

-- what stands for the others then
pub letters_if : Bool → Effect → EffectSet → List Letter
letters_if true e s = effects (without e s) ∷ []
letters_if false e s = []

module _ (σ : Grounding) (row : Effects) (s : EffectSet) (e : Effect) (n : ℕ) (is : HasEffects σ row s) where
  pub has_if_sound : (b : Bool) → Each (IsMet σ) (has_if b row e n).equations → HasIf b s e
  has_if_sound true met = has_sound σ row s e n is met.0
  has_if_sound false met = tt

  pub has_if_complete : (b : Bool) → HasIf b s e → Stand σ n (letters_if b e s) → ToldMet σ (has_if b row e n) (length (letters_if b e s) + n)
  unfolding letters_if
  has_if_complete true has stands = record { next = refl; equations = (has_complete σ row s e n is has stands.0.effects, tt) }
  has_if_complete false has stands = record { next = omega arith; equations = tt }
