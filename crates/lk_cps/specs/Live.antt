-- Names with the numbers of their types, as the code keeps them, and what it keeps them for.
use Rattle.std.specs.Prelude.{◌≡◌, ◌⊎◌, ◌↔◌, ℕ, true, false, List, [], ◌∷◌, Option, Some, None, IsSome, map, reverse, slice_get}
use Rattle.std.specs.BTreeMap.{is_at}
use Rattle.std.specs.List.Sorted.{IsStrictlySortedBy}
use Rattle.std.specs.Map.{lookup}
use Rattle.std.specs.Ordering.{nat_cmp}
use Rattle.lk_ir.specs.LetNormal.{plain_in}
use Rattle.lk_ir.specs.Tables.{body_at, form_at, names_of}
use Rattle.lk_ir.specs.Uses.{Among, AreKept, IsFreeOf, Needs, Uses, UsedBehind, UsedInTails}
use Rattle.lk_ir.specs.declared.nodes.Body.{Body}
use Rattle.lk_ir.specs.declared.nodes.Cont.{Cont}
use Rattle.lk_ir.specs.declared.nodes.Form.{Form}
use Rattle.lk_ir.specs.declared.nodes.Forms.{Forms}
use Rattle.lk_ir.specs.declared.nodes.Kept.{Kept}
use Rattle.lk_ir.specs.TypedUses.{AreTypedAt}
use Rattle.lk_ir.specs.TypedUses.{AmongKept, NeedsAs, UsedBehindAs, UsedInTailsAs, UsesAs, UseCaptured}

-- ---- names with the numbers of their types

abbrev pub Live : Type 0
Live = List (ℕ × ℕ)

abbrev pub type_in : Live → ℕ → Option ℕ
type_in live x = lookup (is_at (nat_cmp x)) live

abbrev pub name_of : ℕ × ℕ → ℕ
name_of e = e.0

abbrev pub Rises : Live → Type 0
Rises live = IsStrictlySortedBy nat_cmp (map name_of live)

-- a name more, in place of an equal one
pub record Puts (old : Live) (x ty : ℕ) (new : Live) : Type 0 where
  pub there : type_in new x ≡ Some ty
  pub others : (y : ℕ) → (x ≡ y → ⊥) → type_in new y ≡ type_in old y

-- without a name, if there is one to leave out
pub record Leaves (old : Live) (bound : Option ℕ) (new : Live) : Type 0 where
  pub gone : (x : ℕ) → IsSome (type_in new x) → IsFreeOf bound x
  pub others : (x : ℕ) → IsFreeOf bound x → type_in new x ≡ type_in old x

-- the names of both, each with one of its types
pub record Joins (a b both : Live) : Type 0 where
  pub first : (x : ℕ) → IsSome (type_in a x) → IsSome (type_in both x)
  pub second : (x : ℕ) → IsSome (type_in b x) → IsSome (type_in both x)
  pub one : (x ty : ℕ) → type_in both x ≡ Some ty → (type_in a x ≡ Some ty) ⊎ (type_in b x ≡ Some ty)

abbrev pub kept_of : ℕ × ℕ → Kept
kept_of e = record { name = e.0; ty = e.1 }

-- all names, in order
pub record KeepsAll (live : Live) (keeps : List Kept) : Type 0 where
  pub is : keeps ≡ map kept_of live
  pub rises : Rises live

-- ---- which names

-- just those that are used, each with the type of a use
pub record IsLive (f : Forms) (Used : ℕ → Type 0) (UsedAs : ℕ → ℕ → Type 0) (live : Live) : Type 0 where
  pub just : (x : ℕ) → (IsSome (type_in live x) ↔ Used x)
  pub typed : UseCaptured f → (x ty : ℕ) → type_in live x ≡ Some ty → UsedAs x ty

abbrev pub LiveAt : Forms → ℕ → Live → Type 0
LiveAt f n live = IsLive f (λ x. Uses f x n) (λ x ty. UsesAs f x ty n) live

-- what a node uses but for a name that is bound there
abbrev pub LiveUnder : Forms → Option ℕ → ℕ → Live → Type 0
LiveUnder f bound n live = IsLive f (λ x. IsFreeOf bound x × Uses f x n) (λ x ty. IsFreeOf bound x × UsesAs f x ty n) live

abbrev pub LiveInTails : Forms → List (Option ℕ) → List ℕ → Live → Type 0
LiveInTails f bs ns live = IsLive f (λ x. UsedInTails f x bs ns) (λ x ty. UsedInTailsAs f x ty bs ns) live

abbrev pub LiveItself : Forms → Form → Live → Type 0
LiveItself f form live = IsLive f (Needs form.kind) (λ x ty. NeedsAs f x ty form.kind form.ty) live

abbrev pub LiveBehind : Forms → Form → List ℕ → Live → Type 0
LiveBehind f form left live = IsLive f (UsedBehind f form left) (UsedBehindAs f form left) live

-- the type of a use in the body that has this label
abbrev pub IsTypeUnder : Forms → ℕ → ℕ → ℕ → Type 0
IsTypeUnder f label x ty = (b : Body) → body_at f label ≡ Some b → UseCaptured f → Uses f x b.root → UsesAs f x ty b.root

abbrev pub LiveCaptured : Forms → ℕ → List ℕ → Live → Type 0
LiveCaptured f label xs live = IsLive f (λ x. Among x xs) (λ x ty. IsTypeUnder f label x ty) live

abbrev pub LiveKept : Forms → List Kept → Live → Type 0
LiveKept f kept live = IsLive f (λ x. Among x (names_of kept)) (λ x ty. AmongKept x ty kept) live

-- what is still there of nodes is what they use
abbrev pub AreLive : Forms → List (Option Live) → Type 0
AreLive f all = (n : ℕ) (live : Live) → slice_get all n ≡ Some (Some live) → LiveAt f n live

-- ---- continuations, which are made from the last to the first

abbrev pub IsContOf : Forms → ℕ → Live → Option Cont → Type 0
IsContOf f n live None = plain_in f (form_at f n) ≡ true
IsContOf f n live (Some c) = (plain_in f (form_at f n) ≡ false) × KeepsAll live c.keeps

-- these are the continuations of the last positions of a node, and of its body
pub record AreContsAt (f : Forms) (form : Form) (left : List ℕ) (cs : List (Option Cont)) : Type 0 where
  pub kept : AreKept f form left cs
  pub typed : UseCaptured f → AreTypedAt f form left cs

-- so for several nodes
abbrev pub AllConts : Forms → List Form → List (List (Option Cont)) → Type 0
AllConts f [] [] = Unit {0}
AllConts f [] (cs ∷ all) = ⊥
AllConts f (form ∷ forms) [] = ⊥
AllConts f (form ∷ forms) (cs ∷ all) = AreContsAt f form form.parts cs × AllConts f forms all

abbrev pub forward : List (List (Option Cont)) → List (List (Option Cont))
forward all = map (λ (cs : List (Option Cont)). reverse cs) (reverse all)

-- what they keep
abbrev pub keeps_in : Option Cont → Option (List Kept)
keeps_in None = None
keeps_in (Some c) = Some c.keeps

abbrev pub bare : List (Option Cont) → List (Option (List Kept))
bare cs = map keeps_in cs
