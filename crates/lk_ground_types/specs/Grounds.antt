-- Ground types in a table, each once and named by its number: one level of a type names its parts.
use Rattle.std.specs.Prelude.{◌≡◌, ℕ, ◌+◌, ◌<◌, List, [], ◌∷◌, ◌++◌, Option, Some, None, flat_map, map, slice_get, slice_index_or}
use Rattle.std.specs.Cmp.Lexicographic.{slice_cmp}
use Rattle.std.specs.FinMap as fin
use Rattle.std.specs.Ordering.{nat_cmp}
use Rattle.lk_types.specs.Each.{Each}
use Rattle.lk_types.specs.Rows.{Label, Row, label_order}
use Rattle.lk_types.specs.declared.ground.Ground.{Ground}
use Rattle.lk_types.specs.declared.ground.Ground.TheVariants as known
use Rattle.lk_types.specs.declared.ground.GroundField.{GroundField}
use Rattle.lk_types.specs.declared.ty.Effect.{Effect}
use Rattle.lk_types.specs.declared.ty.Effect.TheVariants.{Local, Move, Print, Rec, Scan, Trap, Write}
use Rattle.lk_ground_types.specs.Counting.{capped}
use Rattle.lk_ground_types.specs.Sizes.{ground_nodes}
use Rattle.lk_ground_types.specs.declared.ground_level.GroundLevel.{GroundLevel}
use Rattle.lk_ground_types.specs.declared.ground_level.GroundLevel.TheVariants as level
use Rattle.lk_ground_types.specs.declared.ground_level.GroundPart.{GroundPart}
use Rattle.lk_ground_types.specs.declared.entries.Entry.{Entry}

-- the type of that number
abbrev pub at : List Ground → ℕ → Ground
at ts n = slice_index_or ts n known.Int

abbrev pub part_made : List Ground → GroundPart → GroundField
part_made ts p = record { label = p.label; ty = at ts p.part }

-- the type that a level makes, where these are the types by their numbers
abbrev pub ground_made : List Ground → GroundLevel → Ground
ground_made ts level.Int = known.Int
ground_made ts level.Bool = known.Bool
ground_made ts level.Text = known.Text
ground_made ts (level.List n) = known.List (at ts n)
ground_made ts (level.Fields parts) = known.Fields (map (part_made ts) parts)
ground_made ts (level.Tags parts) = known.Tags (map (part_made ts) parts)
ground_made ts (level.Fun params es n) = known.Fun (map (at ts) params) es (at ts n)

abbrev pub parts_of : GroundLevel → List ℕ
parts_of (level.List n) = n ∷ []
parts_of (level.Fields parts) = map (λ p. p.part) parts
parts_of (level.Tags parts) = map (λ p. p.part) parts
parts_of (level.Fun params es n) = n ∷ params
parts_of other = []

-- its parts have lower numbers
abbrev pub IsBelow : ℕ → GroundLevel → Type 0
IsBelow k l = Each (λ n. n < k) (parts_of l)

-- no type has two numbers
abbrev pub AreDistinct : List Ground → Type 0
AreDistinct ts = (i j : ℕ) (t : Ground) → slice_get ts i ≡ Some t → slice_get ts j ≡ Some t → i ≡ j

-- ---- a level as numbers, by which it is looked up

abbrev pub effect_number : Effect → ℕ
effect_number Local = 0
effect_number Move = 1
effect_number Print = 2
effect_number Rec = 3
effect_number Scan = 4
effect_number Trap = 5
effect_number Write = 6

-- each byte one higher, and 0 behind the last
abbrev pub label_key : Label → List ℕ
label_key l = map (λ b. b + 1) l ++ 0 ∷ []

abbrev pub part_key : GroundPart → List ℕ
part_key p = p.part ∷ label_key p.label

abbrev pub key : GroundLevel → List ℕ
key level.Int = 0 ∷ []
key level.Bool = 1 ∷ []
key level.Text = 2 ∷ []
key (level.List n) = 3 ∷ n ∷ []
key (level.Fields parts) = 4 ∷ flat_map part_key parts
key (level.Tags parts) = 5 ∷ flat_map part_key parts
key (level.Fun params es n) = 6 ∷ n ∷ (map effect_number es ++ 7 ∷ params)

-- ---- the parts of a level, by its form

abbrev pub item_of : GroundLevel → Option ℕ
item_of (level.List n) = Some n
item_of other = None

abbrev pub record_of : GroundLevel → Option (List GroundPart)
record_of (level.Fields parts) = Some parts
record_of other = None

abbrev pub variant_of : GroundLevel → Option (List GroundPart)
variant_of (level.Tags parts) = Some parts
variant_of other = None

abbrev pub function_of : GroundLevel → Option (List ℕ × List Effect × ℕ)
function_of (level.Fun params es n) = Some (params, es, n)
function_of other = None

abbrev pub ArePartsBelow : ℕ → List GroundPart → Type 0
ArePartsBelow k parts = Each (λ n. n < k) (map (λ p. p.part) parts)

-- ---- rows by numbers

abbrev pub Parts : Type 0
Parts = fin.FinMap label_order ℕ

-- the row of these parts, the first one where a label comes twice
abbrev pub row_of_parts : List GroundPart → Parts
row_of_parts parts = fin.from_entries (map (λ p. (p.label, p.part)) parts)

-- the parts in byte order of their labels
abbrev pub parts_in : Parts → List GroundPart
parts_in row = map (λ e. record { label = e.0; part = e.1 }) (fin.entries row)

-- the row of types
abbrev pub row_in : List Ground → Parts → Row
row_in ts row = fin.from_entries (map (λ e. (e.0, at ts e.1)) (fin.entries row))

-- ---- the table

-- numbers under keys
abbrev pub Numbers : Type 0
Numbers = fin.FinMap (slice_cmp nat_cmp) ℕ

abbrev pub types_of : List Entry → List Ground
types_of entries = map (λ e. e.ty) entries

-- the type is what its level makes of those before it, with so many nodes
pub record IsEntry (ts : List Ground) (n : ℕ) (e : Entry) : Type 0 where
  pub made : e.ty ≡ ground_made ts e.level
  pub below : IsBelow n e.level
  pub nodes : e.nodes ≡ capped (ground_nodes e.ty)

pub record AreGrounds (entries : List Entry) (numbers : Numbers) : Type 0 where
  pub each : (n : ℕ) (e : Entry) → slice_get entries n ≡ Some e → IsEntry (types_of entries) n e
  pub found : (l : GroundLevel) (n : ℕ) → fin.get numbers (key l) ≡ Some n → (e : Entry) × (slice_get entries n ≡ Some e) × (e.level ≡ l)
  pub listed : (n : ℕ) (e : Entry) → slice_get entries n ≡ Some e → fin.get numbers (key e.level) ≡ Some n
  pub distinct : AreDistinct (types_of entries)

-- each type has as many nodes as is noted
abbrev pub AreCounted : List Entry → Type 0
AreCounted entries = (n : ℕ) (e : Entry) → slice_get entries n ≡ Some e → e.nodes ≡ capped (ground_nodes e.ty)
