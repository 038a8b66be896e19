-- Maps in which the places of instances and of functions are looked up.
use Rattle.std.specs.Prelude.{◌≡◌, ℕ, ◌==◌, Bool, ◌&&◌, List, Option, bytes_eq, find, option_and_then, slice_get}
use Rattle.std.specs.BTreeMap.{BTreeMap, get, get_by}
use Rattle.std.specs.Borrow.{Bor}
use Rattle.std.specs.Cmp.Lexicographic.{slice_cmp}
use Rattle.std.specs.List.{position}
use Rattle.std.specs.Ordering.{nat_cmp, ordering_then}
use Rattle.std.specs.declared.cmp.Ordering.{Ordering}
use Rattle.lk_mono.specs.declared.member.Member.{Member}
use Rattle.lk_mono.specs.declared.queue.Use.{Use}
use Rattle.lk_types.specs.Rows.{Label}

-- ---- instances

-- it is the function of that name at the type of that number
abbrev pub is_use : Label → ℕ → Use → Bool
is_use name number u = bytes_eq u.name.now name && (u.number == number)

-- a name and the number of a type
abbrev pub Key : Type 0
Key = Bor Label × ℕ

abbrev pub key_order : Key → Key → Ordering
key_order x y = ordering_then (slice_cmp nat_cmp x.0.now y.0.now) (nat_cmp x.1 y.1)

-- the map has the place of the first instance of each name and number
abbrev pub FindsUses : BTreeMap Key ℕ → List Use → Type 0
FindsUses places uses = (key : Key) → get key_order places key ≡ position (is_use key.0.now key.1) uses

-- ---- functions

abbrev pub is_member : Label → Member → Bool
is_member name m = bytes_eq m.function.now.name.text name

-- the function at this place, if there is a place
abbrev pub member_there : List Member → Option ℕ → Option Member
member_there members place = option_and_then (slice_get members) place

-- the map has the place of the first function of each name
abbrev pub FindsMembers : BTreeMap (Bor Label) ℕ → List Member → Type 0
FindsMembers places members = (name : Label) → member_there members (get_by (λ k. slice_cmp nat_cmp name k.now) places) ≡ find (is_member name) members
