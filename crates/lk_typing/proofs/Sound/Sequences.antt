-- Where all that is said of expressions one after another holds, they have types by the rules.
use Rattle.std.proofs.Common.{◌≡◌, ℕ, List, [], ◌∷◌, ◌++◌, map, refl, sym, subst, ap, ap₂, ◌∙◌, Option, Some, None}
use Rattle.std.specs.Option.{option_map}
use Rattle.lk_ast.specs.declared.declaration.TableDecl.{TableDecl}
use Rattle.lk_ast.specs.declared.expression.Case.{Case}
use Rattle.lk_ast.specs.declared.expression.Expr.{Expr}
use Rattle.lk_ast.specs.declared.place.Word.{Word}
use Rattle.lk_types.proofs.Members.{each_front, each_back}
use Rattle.lk_types.proofs.Parts.{same_some}
use Rattle.lk_types.proofs.Unfold.{under_variable}
use Rattle.lk_types.specs.Each.{Each}
use Rattle.lk_types.specs.Grounding.{Grounding, under}
use Rattle.lk_types.specs.Rows.{Label, EffectSet}
use Rattle.lk_types.specs.Solutions.{IsMet}
use Rattle.lk_types.specs.declared.ground.Ground.{Ground}
use Rattle.lk_types.specs.declared.ty.Effects.{Effects}
use Rattle.lk_types.specs.declared.ty.Ty.{Ty}
use Rattle.lk_typing.proofs.Lists.{become_both, become_more}
use Rattle.lk_typing.proofs.Meaning.{Names, Functions, HasEffects, Found, Sound}
use Rattle.lk_typing.proofs.Nodes.{nodes_of}
use Rattle.lk_typing.proofs.Scopes.{names_both}
use Rattle.lk_typing.proofs.Values.{met_back, under_unit}
use Rattle.lk_typing.specs.Law.{Become}
use Rattle.lk_typing.specs.Names.{Named, Entry}
use Rattle.lk_typing.specs.Steps.{Meets, Holds}
use Rattle.lk_typing.specs.Typing.{HaveTypes, HaveCases, none, more, no_cases, case_of, IsHeld, under_name, bare}
use Rattle.lk_typing.specs.Unknowns as unknown
use Rattle.lk_typing.specs.Walk.{Walking, Walked, WalkedAll, walk_all, all_types, CaseWalk, WalkedCases, walk_cases, held_by, one_type}

-- each later one of these types is the first
pub one_type_sound : (σ : Grounding) (types : List Ty) (ts : List Ground) (n : ℕ) → Become σ types ts → Each (IsMet σ) (one_type types n).equations
    → (t : Ground) × (under σ (one_type types n).ty ≡ Some t) × Each (λ u. u ≡ t) ts
one_type_sound σ [] [] n become met = (σ.plain n, under_variable σ n, tt)
one_type_sound σ [] (t ∷ ts) n become met = cc
one_type_sound σ (x ∷ xs) [] n become met = cc
one_type_sound σ (x ∷ xs) (t ∷ ts) n become met = let first : under σ x ≡ Some t = cc in let more : Become σ xs ts = cc in (t, first, (refl, later xs ts x t first more met))
  where
    later : (xs : List Ty) (ts : List Ground) (x : Ty) (t : Ground) → under σ x ≡ Some t → Become σ xs ts → Each (IsMet σ) (map (λ later. unknown.same later x) xs) → Each (λ u. u ≡ t) ts
    later xs [] x t first become met = tt
    later [] (u ∷ us) x t first become met = cc
    later (y ∷ ys) (u ∷ us) x t first become met =
        let this : under σ y ≡ Some u = cc in
        let others : Become σ ys us = cc in
        (same_some (sym this ∙ met_back σ y x t first met.0), later ys us x t first others met.1)

module _ (functions : Named (Entry Ty)) (known_functions : Named (Entry Ground)) (tables : List TableDecl) where
  abbrev IsSound : Walking → Expr → Type 0
  IsSound = Sound functions known_functions tables

  -- ---- expressions one after another

  unfoldable pub AreSound : List Walking → List Expr → Type 0
  AreSound [] [] = Unit {0}
  AreSound [] (e ∷ es) = ⊥
  AreSound (w ∷ ws) [] = ⊥
  AreSound (w ∷ ws) (e ∷ es) = IsSound w e × AreSound ws es

  pub record FoundAll (σ : Grounding) (w : WalkedAll) (es : List Expr) (names : Named Ground) (effects : EffectSet) : Type 0 where
    pub ts : List Ground
    pub inside : List Ground
    pub types : Become σ w.types ts
    pub nodes : Become σ w.inside inside
    pub typed : HaveTypes known_functions tables names effects es ts inside

  pub all_sound : (ws : List Walking) (es : List Expr) → AreSound ws es → (σ : Grounding) (names : Named Ty) (known_names : Named Ground) (effects : Effects) (s : EffectSet) (n : ℕ)
      → Functions σ functions known_functions → Names σ names known_names → HasEffects σ effects s → Meets σ (walk_all ws names effects n).steps
      → FoundAll σ (walk_all ws names effects n) es known_names s
  unfolding AreSound
  all_sound [] [] sound σ names known_names effects s n fs ns has meets = record { ts = []; inside = []; types = refl; nodes = refl; typed = none }
  all_sound [] (e ∷ es) sound σ names known_names effects s n fs ns has meets = absurd sound
  all_sound (w ∷ ws) [] sound σ names known_names effects s n fs ns has meets = absurd sound
  all_sound (w ∷ ws) (e ∷ es) sound σ names known_names effects s n fs ns has meets =
      let first : Walked = w names effects n in
      let rest : WalkedAll = walk_all ws names effects first.next in
      let has_first : Found functions known_functions tables σ first e known_names s = sound.0 σ names known_names effects s n fs ns has (each_front (λ step. Holds σ step.said) first.steps rest.steps meets) in
      let has_rest : FoundAll σ rest es known_names s = all_sound ws es sound.1 σ names known_names effects s first.next fs ns has (each_back (λ step. Holds σ step.said) first.steps rest.steps meets) in
      record {
        ts = has_first.t ∷ has_rest.ts;
        inside = (has_first.t ∷ has_first.inside) ++ has_rest.inside;
        types = become_more σ first.ty rest.types has_first.t has_rest.ts has_first.ty has_rest.types;
        nodes = become_both σ (all_types first) rest.inside (has_first.t ∷ has_first.inside) has_rest.inside (nodes_of σ first has_first.t has_first.inside has_first.ty has_first.nodes) has_rest.nodes;
        typed = more has_first.inside has_rest.inside has_first.typed has_rest.typed;
      }

  -- ---- cases

  pub record IsSoundCase (c : CaseWalk) (case : Case) : Type 0 where
    pub tag : c.tag ≡ case.tag.text
    pub name : c.name ≡ option_map (λ x. x.text) case.name
    pub body : IsSound c.body case.body

  unfoldable pub AreSoundCases : List CaseWalk → List Case → Type 0
  AreSoundCases [] [] = Unit {0}
  AreSoundCases [] (case ∷ cases) = ⊥
  AreSoundCases (c ∷ cs) [] = ⊥
  AreSoundCases (c ∷ cs) (case ∷ cases) = IsSoundCase c case × AreSoundCases cs cases

  pub record HeldFound (σ : Grounding) (label : Option Label) (name : Option Word) (n : ℕ) : Type 0 where
    pub a : Ground
    pub bound : Named Ground
    pub ty : under σ (held_by label n).ty ≡ Some a
    pub names : Names σ (held_by label n).bound bound
    pub is : IsHeld name a bound

  held_found : (σ : Grounding) (name : Option Word) (n : ℕ) → HeldFound σ (option_map (λ x. x.text) name) name n
  held_found σ None n = record { a = _; bound = []; ty = under_unit σ; names = record { same = refl }; is = bare }
  held_found σ (Some x) n = record { a = σ.plain n; bound = (x.text, σ.plain n) ∷ []; ty = under_variable σ n; names = record { same = ap (λ o. (x.text, o) ∷ []) (under_variable σ n) }; is = under_name }

  pub record FoundCases (σ : Grounding) (w : WalkedCases) (cases : List Case) (names : Named Ground) (effects : EffectSet) : Type 0 where
    pub ts : List Ground
    pub tags : Named Ground
    pub inside : List Ground
    pub types : Become σ w.bodies.types ts
    pub seen_tags : Names σ w.tags tags
    pub nodes : Become σ w.bodies.inside inside
    pub typed : HaveCases known_functions tables names effects cases ts tags inside

  pub cases_sound : (cs : List CaseWalk) (cases : List Case) → AreSoundCases cs cases → (σ : Grounding) (names : Named Ty) (known_names : Named Ground) (effects : Effects) (s : EffectSet) (n : ℕ)
      → Functions σ functions known_functions → Names σ names known_names → HasEffects σ effects s → Meets σ (walk_cases cs names effects n).bodies.steps
      → FoundCases σ (walk_cases cs names effects n) cases known_names s
  unfolding AreSoundCases
  cases_sound [] [] sound σ names known_names effects s n fs ns has meets = record { ts = []; tags = []; inside = []; types = refl; seen_tags = record { same = refl }; nodes = refl; typed = no_cases }
  cases_sound [] (case ∷ cases) sound σ names known_names effects s n fs ns has meets = absurd sound
  cases_sound (c ∷ cs) [] sound σ names known_names effects s n fs ns has meets = absurd sound
  cases_sound (c ∷ cs) (case ∷ cases) sound σ names known_names effects s n fs ns has meets =
      let is : IsSoundCase c case = sound.0 in
      let held : HeldFound σ c.name case.name n = subst (λ label. HeldFound σ label case.name n) (sym is.name) (held_found σ case.name n) in
      let first : Walked = c.body ((held_by c.name n).bound ++ names) effects (held_by c.name n).next in
      let rest : WalkedCases = walk_cases cs names effects first.next in
      let has_first : Found functions known_functions tables σ first case.body (held.bound ++ known_names) s =
      is.body σ ((held_by c.name n).bound ++ names) (held.bound ++ known_names) effects s (held_by c.name n).next fs (names_both σ (held_by c.name n).bound names held.bound known_names held.names ns) has (each_front (λ step. Holds σ step.said) first.steps rest.bodies.steps meets) in
      let has_rest : FoundCases σ rest cases known_names s = cases_sound cs cases sound.1 σ names known_names effects s first.next fs ns has (each_back (λ step. Holds σ step.said) first.steps rest.bodies.steps meets) in
      record {
        ts = has_first.t ∷ has_rest.ts;
        tags = (case.tag.text, held.a) ∷ has_rest.tags;
        inside = (has_first.t ∷ has_first.inside) ++ has_rest.inside;
        types = become_more σ first.ty rest.bodies.types has_first.t has_rest.ts has_first.ty has_rest.types;
        seen_tags = record { same = ap₂ (λ entry more. entry ∷ more) (ap₂ (λ l o. (l, o)) is.tag held.ty) has_rest.seen_tags.same };
        nodes = become_both σ (all_types first) rest.bodies.inside (has_first.t ∷ has_first.inside) has_rest.inside (nodes_of σ first has_first.t has_first.inside has_first.ty has_first.nodes) has_rest.nodes;
        typed = case_of held.a held.bound has_first.inside has_rest.inside held.is has_first.typed has_rest.typed;
      }
