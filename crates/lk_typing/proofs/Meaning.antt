-- What the law says of the walk through an expression, in two halves: where all that is said holds, the expression has types
-- by the rules, and where it has types, the new variables can stand for something so that all that is said holds.
use Rattle.std.proofs.Common.{◌≡◌, ℕ, ◌+◌, List, [], ◌∷◌, map, length, Some}
use Rattle.lk_ast.specs.declared.declaration.TableDecl.{TableDecl}
use Rattle.lk_ast.specs.declared.expression.Expr.{Expr}
use Rattle.lk_types.specs.Each.{Each}
use Rattle.lk_types.specs.Grounding.{Grounding, under, effects_under}
use Rattle.lk_types.specs.Rows.{Row, EffectSet, no_fields, no_effects}
use Rattle.lk_types.specs.Solutions.{IsMet}
use Rattle.lk_types.specs.declared.ground.Ground.{Ground}
use Rattle.lk_types.specs.declared.ground.Ground.TheVariants as known
use Rattle.lk_types.specs.declared.ty.Effects.{Effects}
use Rattle.lk_types.specs.declared.ty.Ty.{Ty}
use Rattle.lk_typing.specs.Equations.{Own}
use Rattle.lk_typing.specs.Law.{Become}
use Rattle.lk_typing.specs.Names.{Named, Entry, One, Many}
use Rattle.lk_typing.specs.Steps.{Meets}
use Rattle.lk_typing.specs.Typing.{HasType}
use Rattle.lk_typing.specs.Walk.{Walking, Walked}

-- ---- what names stand for

-- the same names, with what comes of what they stand for
abbrev pub seen : {A B : Type 0} → (A → B) → Named A → Named B
seen f entries = map (λ entry. (entry.0, f entry.1)) entries

abbrev pub entry_seen : {A B : Type 0} → (A → B) → Entry A → Entry B
entry_seen f (One a) = One (f a)
entry_seen f (Many scheme) = Many scheme

-- under σ the types of these names become those
pub record Names (σ : Grounding) (names : Named Ty) (known_names : Named Ground) : Type 0 where
  pub same : seen (under σ) names ≡ seen (λ t. Some t) known_names

pub record Functions (σ : Grounding) (functions : Named (Entry Ty)) (known_functions : Named (Entry Ground)) : Type 0 where
  pub same : seen (entry_seen (under σ)) functions ≡ seen (entry_seen (λ t. Some t)) known_functions

pub record HasEffects (σ : Grounding) (effects : Effects) (s : EffectSet) : Type 0 where
  pub same : effects_under σ effects ≡ Some s

-- ---- what stands for new variables

-- what stands for the variable of that number, whatever its kind
pub record Letter : Type 0 where
  pub plain : Ground
  pub row : Row
  pub effects : EffectSet

abbrev pub plain : Ground → Letter
plain t = record { plain = t; row = no_fields; effects = no_effects }

abbrev pub row : Row → Letter
row r = record { plain = known.Int; row = r; effects = no_effects }

abbrev pub effects : EffectSet → Letter
effects s = record { plain = known.Int; row = no_fields; effects = s }

pub record IsLetter (σ : Grounding) (n : ℕ) (l : Letter) : Type 0 where
  pub plain : σ.plain n ≡ l.plain
  pub row : σ.rows n ≡ l.row
  pub effects : σ.effects n ≡ l.effects

-- they stand for the variables from that number
abbrev pub Stand : Grounding → ℕ → List Letter → Type 0
Stand σ n [] = Unit {0}
Stand σ n (l ∷ ls) = IsLetter σ n l × Stand σ (1 + n) ls

-- ---- the two halves

-- all that a walk says holds, it ends behind these letters, and finds these types
pub record Met (σ : Grounding) (w : Walked) (last : ℕ) (t : Ground) (inside : List Ground) : Type 0 where
  pub next : w.next ≡ last
  pub met : Meets σ w.steps
  pub ty : under σ w.ty ≡ Some t
  pub nodes : Become σ w.inside inside

module _ (functions : Named (Entry Ty)) (known_functions : Named (Entry Ground)) (tables : List TableDecl) where
  -- the types that a walk found become those of an expression
  pub record Found (σ : Grounding) (w : Walked) (e : Expr) (names : Named Ground) (effects : EffectSet) : Type 0 where
    pub t : Ground
    pub inside : List Ground
    pub ty : under σ w.ty ≡ Some t
    pub nodes : Become σ w.inside inside
    pub typed : HasType known_functions tables names effects e t inside

  abbrev pub Sound : Walking → Expr → Type 0
  Sound walking e = (σ : Grounding) (names : Named Ty) (known_names : Named Ground) (effects : Effects) (s : EffectSet) (n : ℕ)
      → Functions σ functions known_functions → Names σ names known_names → HasEffects σ effects s → Meets σ (walking names effects n).steps
      → Found σ (walking names effects n) e known_names s

  abbrev pub Complete : Walking → Named Ground → EffectSet → Ground → List Ground → Type 0
  Complete walking known_names s t inside = (ls : List Letter)
      × ((σ : Grounding) (names : Named Ty) (effects : Effects) (n : ℕ)
      → Functions σ functions known_functions → Names σ names known_names → HasEffects σ effects s → Stand σ n ls
      → Met σ (walking names effects n) (length ls + n) t inside)

-- the equations of one node hold, the numbers end there, and its type becomes that
pub record OwnMet (σ : Grounding) (o : Own) (last : ℕ) (t : Ground) : Type 0 where
  pub next : o.next ≡ last
  pub equations : Each (IsMet σ) o.equations
  pub ty : under σ o.ty ≡ Some t
