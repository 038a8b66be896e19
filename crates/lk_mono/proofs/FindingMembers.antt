-- Members as the code has them, and as the definitions do.
use Rattle.std.proofs.Common.{arith, ◌≡◌, ◌⊎◌, inl, inr, ℕ, ◌+◌, ◌<◌, Bool, true, false, List, [], ◌∷◌, ◌++◌, Option, Some, None, Bor, refl, ap, ap₂, sym, ◌∙◌, bytes_eq, cond, drop, length, map, take, append_assoc, append-nil}
use Rattle.std.proofs.lemmas.List.{drop-drop, drop_all, length-map, map-append}
use Rattle.std.specs.List.{find}
use Rattle.std.specs.Option.{option_map}
use Rattle.lk_ast.specs.declared.declaration.FunDef.{FunDef}
use Rattle.lk_outline.specs.Outline.{body_outline}
use Rattle.lk_outline.specs.Shown.{shown, shown_site}
use Rattle.lk_principal.specs.Bodies.{body_size}
use Rattle.lk_types.specs.Rows.{Label}
use Rattle.lk_types.specs.declared.scheme.Scheme.{Scheme}
use Rattle.lk_types.specs.declared.ty.Ty.{Ty}
use Rattle.lk_mono.specs.Members.{TheMember, as_member, member_of, members_of, named_member}
use Rattle.lk_mono.specs.declared.member.Member.{Member}

-- what is found, without the reference to it
pub through : (o : Option (Bor Member)) → option_map (λ m. as_member m.now) o ≡ option_map as_member (option_map (λ m. m.now) o)
through None = refl
through (Some m) = refl

-- the first of that name
pub find_shown : (name : Label) (members : List Member) → option_map as_member (find (λ m. bytes_eq m.function.now.name.text name) members) ≡ named_member name (map as_member members)
find_shown name [] = refl
find_shown name (m ∷ members) = by_test _ _ (bytes_eq m.function.now.name.text name) (find_shown name members)
  where
    by_test : (o : Option Member) (found : Option TheMember) (b : Bool) → option_map as_member o ≡ found → option_map as_member (cond b (Some m) o) ≡ cond b (Some (as_member m)) found
    by_test o found true is = refl
    by_test o found false is = is

-- ---- the members of a program

-- none yet
pub no_members : (fs functions : List (Bor FunDef)) (program : List FunDef) (ss schemes : List Scheme) (left types : List Ty) (members : List Member)
    → members ≡ [] → fs ≡ functions → map (λ f. f.now) functions ≡ program → ss ≡ schemes → left ≡ types
    → map as_member members ++ members_of (map (λ f. f.now) fs) ss left ≡ members_of program schemes types
no_members fs functions program ss schemes left types members none first all scheme own =
    ap (λ xs. map as_member xs ++ members_of (map (λ f. f.now) fs) ss left) none
    ∙ ap₂ (λ xs ys. members_of xs ys left) (ap (λ xs. map (λ f. f.now) xs) first ∙ all) scheme
    ∙ ap (members_of program schemes) own

-- one more
pub members_more : (fs rest : List (Bor FunDef)) (ss srest : List Scheme) (left behind : List Ty) (n : ℕ) (m : Member) (members new : List Member) (all : List TheMember)
    → fs ≡ m.function ∷ rest → ss ≡ m.scheme.now ∷ srest → shown m.sites ≡ body_outline m.function.now.params m.function.now.body
    → n ≡ length m.sites → m.types ≡ take n left → behind ≡ drop n left → new ≡ members ++ (m ∷ [])
    → map as_member members ++ members_of (map (λ f. f.now) fs) ss left ≡ all → map as_member new ++ members_of (map (λ f. f.now) rest) srest behind ≡ all
members_more fs rest ss srest left behind n m members new all first scheme outline number own others pushed before =
    ap (λ xs. map as_member xs ++ members_of (map (λ f. f.now) rest) srest behind) pushed
    ∙ ap (λ xs. xs ++ members_of (map (λ f. f.now) rest) srest behind) (map-append as_member members (m ∷ []))
    ∙ append_assoc (map as_member members) (as_member m ∷ []) (members_of (map (λ f. f.now) rest) srest behind)
    ∙ ap (λ xs. map as_member members ++ xs) (ap₂ (λ x xs. x ∷ xs) here there)
    ∙ ap₂ (λ xs ys. map as_member members ++ members_of (map (λ f. f.now) xs) ys left) (sym first) (sym scheme)
    ∙ before
  where
    size : n ≡ body_size m.function.now
    size = number ∙ sym (length-map m.sites shown_site) ∙ ap length outline

    here : as_member m ≡ member_of m.function.now m.scheme.now (take (body_size m.function.now) left)
    here = ap₂ (λ types sites. record { function = m.function.now; scheme = m.scheme.now; types = types; sites = sites }) (own ∙ ap (λ k. take k left) size) outline

    there : members_of (map (λ f. f.now) rest) srest behind ≡ members_of (map (λ f. f.now) rest) srest (drop (body_size m.function.now) left)
    there = ap (members_of (map (λ f. f.now) rest) srest) (others ∙ ap (λ k. drop k left) size)

-- no function is left, or no scheme
none_left : (fs : List (Bor FunDef)) (ss : List Scheme) (left : List Ty) → (length fs ≡ 0) ⊎ (length ss ≡ 0) → members_of (map (λ f. f.now) fs) ss left ≡ []
none_left [] ss left none = refl
none_left (f ∷ fs) [] left none = refl
none_left (f ∷ fs) (s ∷ ss) left (inl none) = absurd (omega (arith, none))
none_left (f ∷ fs) (s ∷ ss) left (inr none) = absurd (omega (arith, none))

-- so these are all
pub all_members : (fs : List (Bor FunDef)) (ss : List Scheme) (left : List Ty) (members : List Member) (all : List TheMember) → (length fs ≡ 0) ⊎ (length ss ≡ 0)
    → map as_member members ++ members_of (map (λ f. f.now) fs) ss left ≡ all → map as_member members ≡ all
all_members fs ss left members all none before = sym (append-nil (map as_member members)) ∙ ap (λ xs. map as_member members ++ xs) (sym (none_left fs ss left none)) ∙ before

-- ---- places among the types

pub behind_some : (types : List Ty) (from size place : ℕ) → place ≡ from + size → drop place types ≡ drop size (drop from types)
behind_some types from size place is = ap (λ k. drop k types) is ∙ sym (drop-drop size from types)

-- more than there are
pub behind_all : (types : List Ty) (from size count : ℕ) → count ≡ length types → count < 18446744073709551616 → (from + size < 18446744073709551616 → ⊥) → drop count types ≡ drop size (drop from types)
behind_all types from size count is fits beyond =
    drop_all count types (omega (arith, is)) ∙ sym (drop-drop size from types ∙ drop_all (from + size) types (omega (arith, is, fits, beyond)))
