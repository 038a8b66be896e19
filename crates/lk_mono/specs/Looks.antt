-- What there is in an instance, as the code sees it: the types of its nodes by their numbers in a table.
use Rattle.std.specs.Prelude.{◌≡◌, ℕ, ◌<◌, Bool, List, [], ◌∷◌, Option, Some, None, length, map, not, slice_get, take}
use Rattle.std.specs.List.{cons_option, position_or_len}
use Rattle.std.specs.Option.{option_map}
use Rattle.lk_ground_types.specs.Grounds.{at}
use Rattle.lk_mono.specs.Instances.{fits}
use Rattle.lk_mono.specs.declared.look.Found.{Found}
use Rattle.lk_mono.specs.declared.look.Looked.{Looked}
use Rattle.lk_mono.specs.declared.look.Setting.{Setting}
use Rattle.lk_outline.specs.Outline.{Kind, Site, Function, Call}
use Rattle.lk_outline.specs.Typed.{effects_around, type_at}
use Rattle.lk_types.specs.Each.{Each}
use Rattle.lk_types.specs.Rows.{Label}
use Rattle.lk_types.specs.declared.ground.Ground.{Ground}
use Rattle.lk_types.specs.declared.ground.Ground.TheVariants as known
use Rattle.lk_types.specs.declared.ty.Effect.{Effect}

-- a use, with its type
pub record TheFound : Type 0 where
  pub inside : Bool
  pub name : Label
  pub type : Ground

abbrev pub as_found : Found → TheFound
as_found f = record { inside = f.inside; name = f.name.now; type = f.ty }

abbrev pub as_uses : List Found → List TheFound
as_uses uses = map as_found uses

-- its number is that of its type
pub record IsNumbered (ts : List Ground) (number : ℕ) (type : Ground) : Type 0 where
  pub within : number < length ts
  pub is : at ts number ≡ type

abbrev pub AreNumbered : List Ground → List Found → Type 0
AreNumbered ts uses = Each (λ f. IsNumbered ts f.number f.ty) uses

abbrev pub found : Site → Label → Ground → TheFound
found s name type = record { inside = s.inside; name = name; type = type }

-- where the nodes have these types, in an instance with these effects
module _ (own : List Effect) (types : List Ground) where
  abbrev pub found_of : Site → Kind → Option TheFound
  found_of s (Function g) = Some (found s g (type_at types s.number))
  found_of s (Call g args) = Some (found s g (known.Fun (map (type_at types) args) (effects_around own types s.around) (type_at types s.number)))
  found_of s _ = None

  abbrev pub found_at : Site → Option TheFound
  found_at s = found_of s s.kind

  abbrev pub found_in : List Site → List TheFound
  found_in [] = []
  found_in (s ∷ sites) = cons_option (found_at s) (found_in sites)

-- the number of the first type that is too large, or how many there are
abbrev pub first_beyond : List Ground → ℕ
first_beyond types = position_or_len (λ t. not (fits t)) types

-- the nodes have these types, by their numbers in the table
pub record IsSetting (ts : List Ground) (setting : Setting) (types : List Ground) : Type 0 where
  pub made : map (at ts) setting.numbers.now ≡ types
  pub within : Each (λ n. n < length ts) setting.numbers.now

-- what there is where the nodes have these types
pub record IsLooked (ts : List Ground) (own : List Effect) (types : List Ground) (sites : List Site) (looked : Looked) : Type 0 where
  pub made : map (at ts) looked.numbers ≡ types
  pub uses : as_uses looked.uses ≡ found_in own types (take (first_beyond types) sites)
  pub large : looked.large ≡ option_map (λ s. s.span) (slice_get sites (first_beyond types))
