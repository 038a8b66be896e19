-- A node for a constructor on what stands for its parts.
use Rattle.std.proofs.Common.{◌≡◌, ℕ, List, [], ◌∷◌, map, refl, sym, ◌∙◌, ap, subst, arith, Option, Some, None}
use Rattle.std.specs.Option.{option_map}
use Rattle.std.proofs.lemmas.Option.{same_Some}
use Rattle.lk_types.proofs.Members.{each_to_map}
use Rattle.lk_types.proofs.Parts.{mapped}
use Rattle.lk_types.specs.Each.{Each}
use Rattle.lk_types.specs.Grounding.{all_of}
use Rattle.lk_types.specs.declared.ty.Effects.{Effects}
use Rattle.lk_types.specs.declared.ty.Ty.{Ty}
use Rattle.lk_types.specs.declared.ty.Ty.TheVariants as ty
use Rattle.lk_types.specs.declared.ty.TyRow.{TyRow}
use Rattle.lk_unify.proofs.EffectSets.{same_set}
use Rattle.lk_unify.proofs.LoadKinds.{kinds_nothing, kinds_both, loads_more}
use Rattle.lk_unify.proofs.LoadSteps.{none_of, both, both_some, loads_nothing, loads_both, loads_as}
use Rattle.lk_unify.proofs.OpenUnfold.{opened_int, opened_bool, opened_text, opened_list, opened_fields, opened_tags, opened_function, opened_variable}
use Rattle.lk_arena.proofs.Heads.{plain_injective}
use Rattle.lk_arena.specs.Kinds.{Kind, OfTypes, OfFields, OfEffects, TakesKinds}
use Rattle.lk_unify.specs.Loading.{IsLoader, Loads, LoadsAll, Loaded, Makes, AddsFunction, NeverMeans, type_meaning, types_meaning, row_meaning, effects_meaning}
use Rattle.lk_arena.specs.Openings.{OpenEffects, Opening, opened, row_opened, effects_opened, open_function, row_type, effects_type}
use Rattle.lk_arena.specs.Values.{Value, Plain, OfRow, IsMadeOf, effect_row}
use Rattle.lk_unify.specs.declared.loader.Loader.{Loader}
use Rattle.lk_arena.specs.declared.node.Head.{Head}
use Rattle.lk_arena.specs.declared.node.Head.TheVariants as head
use Rattle.lk_arena.specs.declared.node.Shape.TheVariants.{Made}

-- ---- no parts

pub loads_base : (b c : Loader) (n : Opening → Option Value) (g : Ty) (h : Head) (k : ℕ) → IsLoader b → Makes b c OfTypes (Made h []) k → ((ρ : Opening) → n ρ ≡ Some (Plain g))
    → ((x : Value) → IsMadeOf h [] x → x ≡ Plain g) → IsMadeOf h [] (Plain g) → TakesKinds h [] → Loads b c OfTypes n k
loads_base b c n g h k whole add is says made takes =
    loads_more {A = Unit {0}} b b c (λ ρ. Some (tt {0})) (λ v. tt {0}) (Made h []) k n (loads_nothing {A = Unit {0}} b (tt {0}) whole) (λ j. Unit {0}) OfTypes add (kinds_nothing b) (λ j p. takes)
    (λ v x ρ e built. is ρ ∙ ap Some (sym (says x built)))
    (λ x ρ e. (tt {0}, refl {0}, λ w r. subst (IsMadeOf h []) (same_Some (Plain g) x (sym (is ρ) ∙ e)) made))

pub loads_int : (b c : Loader) (k : ℕ) (t : Ty) → t ≡ ty.Int → IsLoader b → Makes b c OfTypes (Made head.Int []) k → Loads b c OfTypes (type_meaning t) k
loads_int b c k t is whole add = loads_base b c (type_meaning t) ty.Int head.Int k whole add (λ ρ. ap (λ t. type_meaning t ρ) is ∙ ap (option_map Plain) (opened_int ρ)) (λ x e. e) refl tt

pub loads_bool : (b c : Loader) (k : ℕ) (t : Ty) → t ≡ ty.Bool → IsLoader b → Makes b c OfTypes (Made head.Bool []) k → Loads b c OfTypes (type_meaning t) k
loads_bool b c k t is whole add = loads_base b c (type_meaning t) ty.Bool head.Bool k whole add (λ ρ. ap (λ t. type_meaning t ρ) is ∙ ap (option_map Plain) (opened_bool ρ)) (λ x e. e) refl tt

pub loads_text : (b c : Loader) (k : ℕ) (t : Ty) → t ≡ ty.Text → IsLoader b → Makes b c OfTypes (Made head.Text []) k → Loads b c OfTypes (type_meaning t) k
loads_text b c k t is whole add = loads_base b c (type_meaning t) ty.Text head.Text k whole add (λ ρ. ap (λ t. type_meaning t ρ) is ∙ ap (option_map Plain) (opened_text ρ)) (λ x e. e) refl tt

-- a variable
pub loads_var : (b c : Loader) (k n : ℕ) (t : Ty) → t ≡ ty.Var n → Loads b c OfTypes (λ ρ. Some (Plain (ρ.plain n))) k → Loads b c OfTypes (type_meaning t) k
loads_var b c k n t is l = record {
  below = l.below;
  kinds = l.kinds;
  to = loads_as b c (λ ρ. Some (Plain (ρ.plain n))) (λ v. v k) (λ x. x) (type_meaning t) (λ v. v k) l.to
      (λ ρ. ap (λ t. type_meaning t ρ) is ∙ ap (option_map Plain) (opened_variable ρ n)) (λ v. refl);
}

-- ---- one part

module _ {A : Type 0} (part : Opening → Option A) (wrap : A → Value) (make : A → Ty) (h : Head) (n : Opening → Option Value) (is : (ρ : Opening) → n ρ ≡ option_map Plain (option_map make (part ρ)))
    (says : (a : A) (x : Value) → IsMadeOf h (wrap a ∷ []) x → x ≡ Plain (make a)) (made : (a : A) → IsMadeOf h (wrap a ∷ []) (Plain (make a))) (kind : Kind) (takes : TakesKinds h (kind ∷ [])) where
  pub loads_one : (a b c : Loader) (p k : ℕ) → Loads a b kind (λ ρ. option_map wrap (part ρ)) p → Makes b c OfTypes (Made h (p ∷ [])) k → Loads a c OfTypes n k
  loads_one a b c p k l add =
      loads_more a b c (λ ρ. option_map wrap (part ρ)) (λ v. v p) (Made h (p ∷ [])) k n l.to (λ j. j p ≡ kind) OfTypes add l.kinds (λ j e. subst (λ y. TakesKinds h (y ∷ [])) (sym e) takes)
      (λ v x ρ e built.
      let s = mapped wrap (part ρ) (v p) e in
      is ρ ∙ ap (λ o. option_map Plain (option_map make o)) s.1 ∙ ap Some (sym (says s.0 x (subst (λ y. IsMadeOf h (y ∷ []) x) s.2 built))))
      (λ x ρ e.
      let s = mapped Plain (option_map make (part ρ)) x (sym (is ρ) ∙ e) in
      let q = mapped make (part ρ) s.0 s.1 in
      (wrap q.0, ap (option_map wrap) q.1, λ w r. subst (λ y. IsMadeOf h (y ∷ []) x) (sym r) (subst (IsMadeOf h (wrap q.0 ∷ [])) (sym (s.2 ∙ ap Plain q.2)) (made q.0))))

  pub never_one : ((ρ : Opening) → option_map wrap (part ρ) ≡ None) → (ρ : Opening) → n ρ ≡ None
  never_one never ρ = is ρ ∙ ap (λ o. option_map Plain (option_map make o)) (empty (part ρ) (never ρ))
    where
      empty : (o : Option A) → option_map wrap o ≡ None → o ≡ None
      empty None e = refl
      empty (Some a) e = cc

pub loads_list : (a b c : Loader) (p k : ℕ) (t : Ty) → Loads a b OfTypes (type_meaning t) p → Makes b c OfTypes (Made head.List (p ∷ [])) k → Loads a c OfTypes (type_meaning (ty.List t)) k
loads_list a b c p k t = loads_one (λ ρ. opened ρ t) Plain ty.List head.List (type_meaning (ty.List t)) (λ ρ. ap (option_map Plain) (opened_list ρ t)) (λ g x e. e) (λ g. refl) OfTypes refl a b c p k

pub never_list : (t : Ty) → NeverMeans (type_meaning t) → NeverMeans (type_meaning (ty.List t))
never_list t = never_one (λ ρ. opened ρ t) Plain ty.List head.List (type_meaning (ty.List t)) (λ ρ. ap (option_map Plain) (opened_list ρ t)) (λ g x e. e) (λ g. refl) OfTypes refl

pub loads_record : (a b c : Loader) (p k : ℕ) (r : TyRow) → Loads a b OfFields (row_meaning r) p → Makes b c OfTypes (Made head.Fields (p ∷ [])) k → Loads a c OfTypes (type_meaning (ty.Fields r)) k
loads_record a b c p k r =
    loads_one (λ ρ. row_opened ρ r) OfRow (λ m. ty.Fields (row_type m)) head.Fields (type_meaning (ty.Fields r)) (λ ρ. ap (option_map Plain) (opened_fields ρ r)) (λ g x e. e) (λ g. refl) OfFields refl a b c p k

pub never_record : (r : TyRow) → NeverMeans (row_meaning r) → NeverMeans (type_meaning (ty.Fields r))
never_record r =
    never_one (λ ρ. row_opened ρ r) OfRow (λ m. ty.Fields (row_type m)) head.Fields (type_meaning (ty.Fields r)) (λ ρ. ap (option_map Plain) (opened_fields ρ r)) (λ g x e. e) (λ g. refl) OfFields refl

pub loads_variant : (a b c : Loader) (p k : ℕ) (r : TyRow) → Loads a b OfFields (row_meaning r) p → Makes b c OfTypes (Made head.Tags (p ∷ [])) k → Loads a c OfTypes (type_meaning (ty.Tags r)) k
loads_variant a b c p k r =
    loads_one (λ ρ. row_opened ρ r) OfRow (λ m. ty.Tags (row_type m)) head.Tags (type_meaning (ty.Tags r)) (λ ρ. ap (option_map Plain) (opened_tags ρ r)) (λ g x e. e) (λ g. refl) OfFields refl a b c p k

pub never_variant : (r : TyRow) → NeverMeans (row_meaning r) → NeverMeans (type_meaning (ty.Tags r))
never_variant r =
    never_one (λ ρ. row_opened ρ r) OfRow (λ m. ty.Tags (row_type m)) head.Tags (type_meaning (ty.Tags r)) (λ ρ. ap (option_map Plain) (opened_tags ρ r)) (λ g x e. e) (λ g. refl) OfFields refl

-- ---- functions

plain_front : (a : Ty) (p : Option (List Ty)) → option_map (λ more. Plain a ∷ more) (option_map (map Plain) p) ≡ option_map (map Plain) (option_map (λ more. a ∷ more) p)
plain_front a None = refl
plain_front a (Some ts) = refl

all_plain : {X : Type 0} (f : X → Option Ty) (xs : List X) → all_of (map (λ x. option_map Plain (f x)) xs) ≡ option_map (map Plain) (all_of (map f xs))
all_plain f [] = refl
all_plain f (x ∷ xs) = by_first (f x) (all_plain f xs)
  where
    by_first : (o : Option Ty) → all_of (map (λ x. option_map Plain (f x)) xs) ≡ option_map (map Plain) (all_of (map f xs))
        → all_of (option_map Plain o ∷ map (λ x. option_map Plain (f x)) xs) ≡ option_map (map Plain) (all_of (o ∷ map f xs))
    by_first None is = refl
    by_first (Some a) is = ap (option_map (λ more. Plain a ∷ more)) is ∙ plain_front a (all_of (map f xs))

cons_once : {A : Type 0} (a b : A) (xs ys : List A) → a ∷ xs ≡ b ∷ ys → (a ≡ b) × (xs ≡ ys)
cons_once a b xs ys e = (cc, cc)

pub plains_once : (ss ts : List Ty) → map Plain ss ≡ map Plain ts → ss ≡ ts
plains_once [] [] e = refl
plains_once [] (t ∷ ts) e = cc
plains_once (s ∷ ss) [] e = cc
plains_once (s ∷ ss) (t ∷ ts) e =
    let c = cons_once (Plain s) (Plain t) (map Plain ss) (map Plain ts) e in
    (λ i. plain_injective s t c.0 i ∷ plains_once ss ts c.1 i)

function_some : (o : Option (List Ty)) (p : Option OpenEffects) (q : Option Ty) (g : Ty) → open_function o p q ≡ Some g
    → (ts : List Ty) × (s : OpenEffects) × (t : Ty) × (o ≡ Some ts) × (p ≡ Some s) × (q ≡ Some t) × (g ≡ ty.Fun ts (effects_type s) t)
function_some None p q g e = cc
function_some (Some ts) None q g e = cc
function_some (Some ts) (Some s) None g e = cc
function_some (Some ts) (Some s) (Some t) g e = (ts, s, t, refl, refl, refl, sym (same_Some (ty.Fun ts (effects_type s) t) g e))

module _ (params : List Ty) (es : Effects) (answer : Ty) where
  types_are : (ρ : Opening) → types_meaning params ρ ≡ option_map (map Plain) (all_of (map (opened ρ) params))
  types_are ρ = all_plain (opened ρ) params

  abbrev pub meaning : Opening → Option ((Value × List Value) × Value)
  meaning ρ = both (both (type_meaning answer ρ) (types_meaning params ρ)) (effects_meaning es ρ)

  abbrev pub means : Opening → Option Value
  means = type_meaning (ty.Fun params es answer)

  means_is : (ρ : Opening) → means ρ ≡ option_map Plain (open_function (all_of (map (opened ρ) params)) (effects_opened ρ es) (opened ρ answer))
  means_is ρ = ap (option_map Plain) (opened_function ρ params es answer)

  pub function_says : (x first second : Value) (others : List Value) (ρ : Opening) → meaning ρ ≡ Some ((second, others), first) → IsMadeOf head.Fun (first ∷ (second ∷ others)) x → means ρ ≡ Some x
  function_says x first second others ρ e built =
      let u = both_some (both (type_meaning answer ρ) (types_meaning params ρ)) (effects_meaning es ρ) ((second, others), first) e in
      let w = both_some (type_meaning answer ρ) (types_meaning params ρ) (second, others) u.0 in
      let s = mapped (λ s. OfRow (effect_row s)) (effects_opened ρ es) first u.1 in
      let t = mapped Plain (opened ρ answer) second w.0 in
      let ts = mapped (map Plain) (all_of (map (opened ρ) params)) others (sym (types_are ρ) ∙ w.1) in
      let m : IsMadeOf head.Fun (OfRow (effect_row s.0) ∷ (Plain t.0 ∷ map Plain ts.0)) x =
      subst (λ vs. IsMadeOf head.Fun vs x) (λ i. s.2 i ∷ (t.2 i ∷ ts.2 i)) built in
      let same : s.0 ≡ m.0 = same_set s.0 m.0 m.2 in
      let alike : ts.0 ≡ m.1 = plains_once ts.0 m.1 m.3 in
      means_is ρ
      ∙ (λ i. option_map Plain (open_function (ts.1 i) (s.1 i) (t.1 i)))
      ∙ (λ i. Some (Plain (ty.Fun (alike i) (effects_type (same i)) t.0)))
      ∙ ap Some (sym m.4)

  pub function_builds : (x : Value) (ρ : Opening) → means ρ ≡ Some x
      → (y : (Value × List Value) × Value) × (meaning ρ ≡ Some y) × IsMadeOf head.Fun (y.1 ∷ (y.0.0 ∷ y.0.1)) x
  function_builds x ρ e =
      let g = mapped Plain (open_function (all_of (map (opened ρ) params)) (effects_opened ρ es) (opened ρ answer)) x (sym (means_is ρ) ∙ e) in
      let f = function_some (all_of (map (opened ρ) params)) (effects_opened ρ es) (opened ρ answer) g.0 g.1 in (
        ((Plain f.2, map Plain f.0), OfRow (effect_row f.1)),
        (λ i. both (both (option_map Plain (f.5 i)) ((types_are ρ ∙ ap (option_map (map Plain)) f.3) i)) (option_map (λ s. OfRow (effect_row s)) (f.4 i))),
        (f.1, f.0, refl, refl, g.2 ∙ ap Plain f.6),
      )

  pub loads_function : (a b c d e : Loader) (first second : ℕ) (others : List ℕ) (k : ℕ) → Loads a b OfTypes (type_meaning answer) second → LoadsAll b c (types_meaning params) others → Loads c d OfEffects (effects_meaning es) first
      → Makes d e OfTypes (Made head.Fun (first ∷ (second ∷ others))) k → Loads a e OfTypes (type_meaning (ty.Fun params es answer)) k
  loads_function a b c d e first second others k f g h add =
      loads_more a d e meaning (λ v. ((v second, map v others), v first)) (Made head.Fun (first ∷ (second ∷ others))) k means
      (loads_both a c d (λ ρ. both (type_meaning answer ρ) (types_meaning params ρ)) (λ v. (v second, map v others)) (effects_meaning es) (λ v. v first)
      (loads_both a b c (type_meaning answer) (λ v. v second) (types_meaning params) (λ v. map v others) f.to g.to) h.to)
      (λ j. ((j second ≡ OfTypes) × Each (λ n. j n ≡ OfTypes) others) × (j first ≡ OfEffects)) OfTypes add
      (kinds_both a c d (λ j. (j second ≡ OfTypes) × Each (λ n. j n ≡ OfTypes) others) (λ j. j first ≡ OfEffects) (let x = f.to.longer in let y = g.to.longer in omega arith) h.to.longer
      (kinds_both a b c (λ j. j second ≡ OfTypes) (λ j. Each (λ n. j n ≡ OfTypes) others) f.to.longer g.to.longer f.kinds g.kinds) h.kinds)
      (λ j p. (p.1, p.0.0, each_to_map (λ k. k ≡ OfTypes) j others p.0.1))
      (λ v x ρ is built. function_says x (v first) (v second) (map v others) ρ is built)
      (λ x ρ is.
      let y = function_builds x ρ is in
      (y.0, y.1, λ w r. subst (λ (z : (Value × List Value) × Value). IsMadeOf head.Fun (z.1 ∷ (z.0.0 ∷ z.0.1)) x) (sym r) y.2))

  never_function : ((ρ : Opening) (x : Value) → means ρ ≡ Some x → ⊥) → NeverMeans means
  never_function n ρ = none_of (means ρ) (n ρ)

  no_some : {A : Type 0} (o : Option A) (a : A) → o ≡ None → o ≡ Some a → ⊥
  no_some o a n s = (let h : None ≡ Some a = sym n ∙ s in cc)

  pub never_first : NeverMeans (effects_meaning es) → NeverMeans (type_meaning (ty.Fun params es answer))
  never_first never = never_function (λ ρ x e.
      let y = function_builds x ρ e in
      let u = both_some (both (type_meaning answer ρ) (types_meaning params ρ)) (effects_meaning es ρ) y.0 y.1 in
      no_some (effects_meaning es ρ) y.0.1 (never ρ) u.1)

  pub never_second : NeverMeans (type_meaning answer) → NeverMeans (type_meaning (ty.Fun params es answer))
  never_second never = never_function (λ ρ x e.
      let y = function_builds x ρ e in
      let u = both_some (both (type_meaning answer ρ) (types_meaning params ρ)) (effects_meaning es ρ) y.0 y.1 in
      let w = both_some (type_meaning answer ρ) (types_meaning params ρ) y.0.0 u.0 in
      no_some (type_meaning answer ρ) y.0.0.0 (never ρ) w.0)

  pub never_others : NeverMeans (types_meaning params) → NeverMeans (type_meaning (ty.Fun params es answer))
  never_others never = never_function (λ ρ x e.
      let y = function_builds x ρ e in
      let u = both_some (both (type_meaning answer ρ) (types_meaning params ρ)) (effects_meaning es ρ) y.0 y.1 in
      let w = both_some (type_meaning answer ρ) (types_meaning params ρ) y.0.0 u.0 in
      no_some (types_meaning params ρ) y.0.0.1 (never ρ) w.1)

-- what follows from the answers of the parts

pub never_as : (t u : Ty) → t ≡ u → NeverMeans (type_meaning u) → NeverMeans (type_meaning t)
never_as t u e never = subst (λ t. NeverMeans (type_meaning t)) (sym e) never

pub loaded_function : (a b c d : Loader) (t : Ty) (params : List Ty) (es : Effects) (answer : Ty) (second : ℕ) (others : List ℕ) (found : Option ℕ) → t ≡ ty.Fun params es answer → Loads a b OfTypes (type_meaning answer) second
    → LoadsAll b c (types_meaning params) others → AddsFunction c d es second others found → Loaded a d OfTypes (type_meaning t) found
loaded_function a b c d t params es answer second others None is f g h = subst (λ t. NeverMeans (type_meaning t)) (sym is) (never_first params es answer h)
loaded_function a b c d t params es answer second others (Some k) is f g h =
    subst (λ t. Loads a d OfTypes (type_meaning t) k) (sym is) (loads_function params es answer a b c h.0 d h.1 second others k f g h.2 h.3)
