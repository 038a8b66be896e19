-- The entries of a scope, the innermost first, and where they stand.
use Rattle.std.specs.Prelude.{◌≡◌, ℕ, List, [], ◌∷◌, Option, Some, None, map, reverse, length, bytes_eq, if◌then◌else◌}
use Rattle.std.specs.BTreeMap.{BTreeMap, get_by}
use Rattle.std.specs.Cmp.Lexicographic.{slice_cmp}
use Rattle.std.specs.Ordering.{nat_cmp}
use Rattle.lk_types.specs.Rows.{Label}
use Rattle.lk_typing.specs.Names.{Named}
use Rattle.lk_equations.specs.declared.scope.Entry.{Entry}
use denote.Ref.{Bor}

-- what the names stand for
abbrev pub seen : {A : Type 0} → List (Entry A) → Named A
seen entries = map (λ e. (e.name.now, e.value)) (reverse entries)

-- a name with the place of the entry that it hides
abbrev pub Links : Type 0
Links = List (Label × Option ℕ)

abbrev pub links : {A : Type 0} → List (Entry A) → Links
links entries = map (λ e. (e.name.now, e.hidden)) (reverse entries)

-- the place of the innermost entry of a name, counted from the outermost one
abbrev pub place : Label → Links → Option ℕ
place x [] = None
place x (e ∷ es) = if bytes_eq e.0 x then Some (length es) else place x es

-- each entry knows which one it hides
abbrev pub AreLinked : Links → Type 0
AreLinked [] = Unit {0}
AreLinked (e ∷ es) = (e.1 ≡ place e.0 es) × AreLinked es

-- each name has its place, and each entry knows which one it hides
pub record IsIndex (last : BTreeMap (Bor (List ℕ)) ℕ) (es : Links) : Type 0 where
  pub places : (x : Label) → get_by (λ k. slice_cmp nat_cmp x k.now) last ≡ place x es
  pub linked : AreLinked es
