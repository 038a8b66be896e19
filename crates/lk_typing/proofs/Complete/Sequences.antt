-- Where expressions one after another have types, what stands for their variables makes all that is said of them hold.
use Rattle.std.proofs.Common.{◌≡◌, ℕ, ◌+◌, List, [], ◌∷◌, ◌++◌, map, length, refl, sym, subst, ap, ap₂, ◌∙◌, Option, Some}
use native.Mathlib.Omega.{arith}
use Rattle.std.specs.Option.{option_map}
use Rattle.lk_ast.specs.declared.declaration.TableDecl.{TableDecl}
use Rattle.lk_ast.specs.declared.expression.Case.{Case}
use Rattle.lk_ast.specs.declared.place.Word.{Word}
use Rattle.lk_types.proofs.Members.{each_both}
use Rattle.lk_types.specs.Each.{Each}
use Rattle.lk_types.specs.Grounding.{Grounding, under}
use Rattle.lk_types.specs.Rows.{Label, EffectSet}
use Rattle.lk_types.specs.Solutions.{IsMet}
use Rattle.lk_types.specs.declared.ground.Ground.{Ground}
use Rattle.lk_types.specs.declared.ty.Effects.{Effects}
use Rattle.lk_types.specs.declared.ty.Ty.{Ty}
use Rattle.lk_types.specs.declared.ty.Ty.TheVariants as ty
use Rattle.lk_typing.proofs.Lists.{length_both, stand_front, stand_back, become_more, become_both}
use Rattle.lk_typing.proofs.Meaning.{Letter, plain, Stand, Names, Functions, HasEffects, Met, Complete, OwnMet}
use Rattle.lk_typing.proofs.Nodes.{nodes_of}
use Rattle.lk_typing.proofs.Scopes.{names_both}
use Rattle.lk_typing.proofs.Values.{meets, variable_is, under_unit}
use Rattle.lk_typing.specs.Law.{Become}
use Rattle.lk_typing.specs.Names.{Named, Entry}
use Rattle.lk_typing.specs.Steps.{Meets, Holds}
use Rattle.lk_typing.specs.Typing.{IsHeld, under_name, bare}
use Rattle.lk_typing.specs.Unknowns as unknown
use Rattle.lk_typing.specs.Walk.{Walking, Walked, WalkedAll, walk_all, all_types, CaseWalk, WalkedCases, walk_cases, held_by, one_type}

-- ---- one type

-- what stands for the variable where there is no type
pub letters_of_none : List Ground → Ground → List Letter
letters_of_none [] t = plain t ∷ []
letters_of_none (u ∷ us) t = []

pub one_type_complete : (σ : Grounding) (types : List Ty) (ts : List Ground) (t : Ground) (n : ℕ) → Each (λ u. u ≡ t) ts → Become σ types ts → Stand σ n (letters_of_none ts t)
    → OwnMet σ (one_type types n) (length (letters_of_none ts t) + n) t
unfolding letters_of_none
one_type_complete σ [] [] t n each become stands = record { next = refl; equations = tt; ty = variable_is σ n t stands.0.plain }
one_type_complete σ [] (u ∷ us) t n each become stands = cc
one_type_complete σ (x ∷ xs) [] t n each become stands = cc
one_type_complete σ (x ∷ xs) (u ∷ us) t n each become stands =
    let first : under σ x ≡ Some u = cc in
    let more : Become σ xs us = cc in
    let is : under σ x ≡ Some t = first ∙ ap (λ v. Some v) each.0 in
    record { next = omega arith; equations = later xs us x is more each.1; ty = is }
  where
    later : (xs : List Ty) (us : List Ground) (x : Ty) → under σ x ≡ Some t → Become σ xs us → Each (λ u. u ≡ t) us → Each (IsMet σ) (map (λ later. unknown.same later x) xs)
    later [] us x is become each = tt
    later (y ∷ ys) [] x is become each = cc
    later (y ∷ ys) (u ∷ us) x is become each =
        let this : under σ y ≡ Some u = cc in
        let others : Become σ ys us = cc in
        (meets σ y x t (this ∙ ap (λ v. Some v) each.0) is, later ys us x is others each.1)

pub record MetAll (σ : Grounding) (w : WalkedAll) (last : ℕ) (ts inside : List Ground) : Type 0 where
  pub next : w.next ≡ last
  pub met : Meets σ w.steps
  pub types : Become σ w.types ts
  pub nodes : Become σ w.inside inside

pub record MetCases (σ : Grounding) (w : WalkedCases) (last : ℕ) (ts : List Ground) (tags : Named Ground) (inside : List Ground) : Type 0 where
  pub bodies : MetAll σ w.bodies last ts inside
  pub seen_tags : Names σ w.tags tags

-- one expression, and others behind it
before_both : (σ : Grounding) (w : Walked) (rest : WalkedAll) (la lb : List Letter) (n : ℕ) (t : Ground) (ts inside more : List Ground)
    → Met σ w (length la + n) t inside → MetAll σ rest (length lb + w.next) ts more
    → MetAll σ (record { types = w.ty ∷ rest.types; inside = all_types w ++ rest.inside; steps = w.steps ++ rest.steps; next = rest.next }) (length (la ++ lb) + n) (t ∷ ts) ((t ∷ inside) ++ more)
before_both σ w rest la lb n t ts inside more f g = record {
  next = g.next ∙ ap (λ k. length lb + k) f.next ∙ length_both la lb n;
  met = each_both (λ step. Holds σ step.said) w.steps rest.steps f.met g.met;
  types = become_more σ w.ty rest.types t ts f.ty g.types;
  nodes = become_both σ (all_types w) rest.inside (t ∷ inside) more (nodes_of σ w t inside f.ty f.nodes) g.nodes;
}

module _ (functions : Named (Entry Ty)) (known_functions : Named (Entry Ground)) (tables : List TableDecl) where
  abbrev IsComplete : Walking → Named Ground → EffectSet → Ground → List Ground → Type 0
  IsComplete = Complete functions known_functions tables

  -- ---- expressions one after another

  abbrev pub CompleteAll : List Walking → Named Ground → EffectSet → List Ground → List Ground → Type 0
  CompleteAll ws names s ts inside = (ls : List Letter)
      × ((σ : Grounding) (open_names : Named Ty) (row : Effects) (n : ℕ)
      → Functions σ functions known_functions → Names σ open_names names → HasEffects σ row s → Stand σ n ls
      → MetAll σ (walk_all ws open_names row n) (length ls + n) ts inside)

  pub none_complete : (names : Named Ground) (s : EffectSet) → CompleteAll [] names s [] []
  none_complete names s = ([], λ σ open_names row n fs ns es stands. record { next = omega arith; met = tt; types = refl; nodes = refl })

  pub more_complete : (w : Walking) (ws : List Walking) (names : Named Ground) (s : EffectSet) (t : Ground) (ts inside more : List Ground)
      → IsComplete w names s t inside → CompleteAll ws names s ts more → CompleteAll (w ∷ ws) names s (t ∷ ts) ((t ∷ inside) ++ more)
  more_complete w ws names s t ts inside more (la, met_first) (lb, met_rest) = (
    la ++ lb,
    λ σ open_names row n fs ns es stands.
        let first : Walked = w open_names row n in
        let rest : WalkedAll = walk_all ws open_names row first.next in
        let f : Met σ first (length la + n) t inside = met_first σ open_names row n fs ns es (stand_front σ la lb n stands) in
        let g : MetAll σ rest (length lb + first.next) ts more = met_rest σ open_names row first.next fs ns es (subst (λ k. Stand σ k lb) (sym f.next) (stand_back σ la lb n stands)) in
        before_both σ first rest la lb n t ts inside more f g,
  )

  -- ---- cases

  abbrev pub CompleteCases : List CaseWalk → Named Ground → EffectSet → List Ground → Named Ground → List Ground → Type 0
  CompleteCases cs names s ts tags inside = (ls : List Letter)
      × ((σ : Grounding) (open_names : Named Ty) (row : Effects) (n : ℕ)
      → Functions σ functions known_functions → Names σ open_names names → HasEffects σ row s → Stand σ n ls
      → MetCases σ (walk_cases cs open_names row n) (length ls + n) ts tags inside)

  pub no_cases_complete : (names : Named Ground) (s : EffectSet) → CompleteCases [] names s [] [] []
  no_cases_complete names s = ([], λ σ open_names row n fs ns es stands. record { bodies = record { next = omega arith; met = tt; types = refl; nodes = refl }; seen_tags = record { same = refl } })

  pub letters_held : {name : Option Word} {a : Ground} {bound : Named Ground} → IsHeld name a bound → List Letter
  letters_held (under_name {x} {a}) = plain a ∷ []
  letters_held bare = []

  record HeldMet (σ : Grounding) (label : Option Label) (n last : ℕ) (a : Ground) (bound : Named Ground) : Type 0 where
    next : (held_by label n).next ≡ last
    ty : under σ (held_by label n).ty ≡ Some a
    seen_names : Names σ (held_by label n).bound bound

  held_met : (σ : Grounding) (name : Option Word) (a : Ground) (bound : Named Ground) (held : IsHeld name a bound) (n : ℕ) → Stand σ n (letters_held held)
      → HeldMet σ (option_map (λ x. x.text) name) n (length (letters_held held) + n) a bound
  unfolding letters_held
  held_met σ _ _ _ (under_name {x} {a}) n stands =
      let is : under σ (ty.Var n) ≡ Some a = variable_is σ n a stands.0.plain in
      record { next = refl; ty = is; seen_names = record { same = ap (λ o. (x.text, o) ∷ []) is } }
  held_met σ _ _ _ bare n stands = record { next = omega arith; ty = under_unit σ; seen_names = record { same = refl } }

  pub case_complete : (c : CaseWalk) (cs : List CaseWalk) (case : Case) (names : Named Ground) (s : EffectSet) (a t : Ground) (bound tags : Named Ground) (ts inside more : List Ground)
      → c.tag ≡ case.tag.text → c.name ≡ option_map (λ x. x.text) case.name → IsHeld case.name a bound
      → IsComplete c.body (bound ++ names) s t inside → CompleteCases cs names s ts tags more
      → CompleteCases (c ∷ cs) names s (t ∷ ts) ((case.tag.text, a) ∷ tags) ((t ∷ inside) ++ more)
  case_complete c cs case names s a t bound tags ts inside more tag name is (la, met_first) (lb, met_rest) =
      let lh : List Letter = letters_held is in (
        lh ++ (la ++ lb),
        λ σ open_names row n fs ns es stands.
            let held : HeldMet σ c.name n (length lh + n) a bound =
            subst (λ label. HeldMet σ label n (length lh + n) a bound) (sym name) (held_met σ case.name a bound is n (stand_front σ lh (la ++ lb) n stands)) in
            let k : ℕ = (held_by c.name n).next in
            let then : Stand σ k (la ++ lb) = subst (λ m. Stand σ m (la ++ lb)) (sym held.next) (stand_back σ lh (la ++ lb) n stands) in
            let first : Walked = c.body ((held_by c.name n).bound ++ open_names) row k in
            let rest : WalkedCases = walk_cases cs open_names row first.next in
            let f : Met σ first (length la + k) t inside = met_first σ ((held_by c.name n).bound ++ open_names) row k fs (names_both σ (held_by c.name n).bound open_names bound names held.seen_names ns) es (stand_front σ la lb k then) in
            let g : MetCases σ rest (length lb + first.next) ts tags more = met_rest σ open_names row first.next fs ns es (subst (λ m. Stand σ m lb) (sym f.next) (stand_back σ la lb k then)) in
            let both : MetAll σ (walk_cases (c ∷ cs) open_names row n).bodies (length (la ++ lb) + k) (t ∷ ts) ((t ∷ inside) ++ more) = before_both σ first rest.bodies la lb k t ts inside more f g.bodies in
            let behind : length (la ++ lb) + k ≡ length (lh ++ (la ++ lb)) + n = ap (λ m. length (la ++ lb) + m) held.next ∙ length_both lh (la ++ lb) n in
            record {
              bodies = record { next = both.next ∙ behind; met = both.met; types = both.types; nodes = both.nodes };
              seen_tags = record { same = ap₂ (λ entry others. entry ∷ others) (ap₂ (λ l o. (l, o)) tag held.ty) g.seen_tags.same };
            },
      )
