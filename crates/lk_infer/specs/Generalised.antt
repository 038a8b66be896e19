-- How a scheme is made of the type of a function, and what follows for its lacks and its size: the labels that its row variables lack
-- because of other types of the group, and that it doesn't show, are kept beside it (Gaster and Jones, A polymorphic type system for extensible records and variants, 1996).
use Rattle.std.specs.Prelude.{◌≡◌, ◌≤◌, ◌↔◌, ℕ, List, [], ◌∷◌, flat_map}
use Rattle.lk_types.specs.Each.{Each, OneOf}
use Rattle.lk_types.specs.Sizes.{nodes}
use Rattle.lk_types.specs.Variables.{variables_of}
use Rattle.lk_types.specs.declared.scheme.Lack.{Lack}
use Rattle.lk_types.specs.declared.scheme.Scheme.{Scheme}
use Rattle.lk_types.specs.declared.ty.Ty.{Ty}
use Rattle.lk_types.specs.declared.ty.Variable.TheVariants as variable
use Rattle.lk_types.specs.Renamed.{width}
use Rattle.lk_infer.specs.Lacks.{shown}

abbrev pub IsIn : Lack → List Lack → Type 0
IsIn lack lacks = OneOf (λ other. other ≡ lack) lacks

-- a row variable of that number stands in the type
abbrev pub HasRow : ℕ → Ty → Type 0
HasRow n t = OneOf (λ x. x ≡ variable.Row n) (variables_of t)

pub record IsGeneralised (types : List Ty) (body : Ty) (scheme : Scheme) : Type 0 where
  pub body_is : scheme.body ≡ body
  pub lacks : (lack : Lack) → IsIn lack scheme.lacks ↔ (IsIn lack (flat_map shown types) × HasRow lack.var body × (IsIn lack (shown body) → ⊥))

abbrev pub AreGeneralised : List Ty → List Ty → List Scheme → Type 0
AreGeneralised types [] [] = Unit {0}
AreGeneralised types (b ∷ bs) (s ∷ ss) = IsGeneralised types b s × AreGeneralised types bs ss
AreGeneralised types _ _ = ⊥

-- the lacks are of variables of rows that stand in the type, which doesn't show them
abbrev pub HasOwnLacks : Scheme → Type 0
HasOwnLacks scheme = Each (λ lack. HasRow lack.var scheme.body × (IsIn lack (shown scheme.body) → ⊥)) scheme.lacks

-- a new instance takes no more numbers of variables than the type has nodes
abbrev pub IsNarrow : Scheme → Type 0
IsNarrow scheme = width scheme ≤ nodes scheme.body
