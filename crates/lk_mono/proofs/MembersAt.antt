-- Which functions, schemes and types the members of a program have.
use Rattle.std.proofs.Common.{arith, ◌≡◌, ℕ, zero, suc, ◌≤◌, Bool, true, false, List, [], ◌∷◌, Some, refl, ap, sym, subst, ◌∙◌, bytes_eq, cond, drop, length, take}
use Rattle.std.proofs.lemmas.Option.{same_Some}
use Rattle.std.specs.List.{find, slice_get}
use Rattle.lk_ground_types.proofs.Variables.{true_false}
use Rattle.lk_ast.specs.declared.declaration.FunDef.{FunDef}
use Rattle.lk_outline.specs.Outline.{body_outline}
use Rattle.lk_principal.specs.Bodies.{body_size, shares}
use Rattle.lk_types.specs.Rows.{Label}
use Rattle.lk_types.specs.declared.scheme.Scheme.{Scheme}
use Rattle.lk_types.specs.declared.ty.Ty.{Ty}
use Rattle.lk_mono.specs.Members.{TheMember, member_of, members_of, named_member}

-- it is the member of the function of that number
pub record IsMemberAt (functions : List FunDef) (schemes : List Scheme) (types : List Ty) (i : ℕ) (m : TheMember) : Type 0 where
  pub function : slice_get functions i ≡ Some m.function
  pub scheme : slice_get schemes i ≡ Some m.scheme
  pub own : slice_get (shares functions types) i ≡ Some m.types
  pub sites : m.sites ≡ body_outline m.function.params m.function.body

pub member_at : (fs : List FunDef) (ss : List Scheme) (types : List Ty) (i : ℕ) (m : TheMember) → slice_get (members_of fs ss types) i ≡ Some m → IsMemberAt fs ss types i m
member_at [] ss types i m is = cc
member_at (f ∷ fs) [] types i m is = cc
member_at (f ∷ fs) (s ∷ ss) types zero m is = at_first (same_Some first m is)
  where
    first : TheMember
    first = member_of f s (take (body_size f) types)

    at_first : first ≡ m → IsMemberAt (f ∷ fs) (s ∷ ss) types 0 m
    at_first same = subst (IsMemberAt (f ∷ fs) (s ∷ ss) types 0) same (record { function = refl; scheme = refl; own = refl; sites = refl })
member_at (f ∷ fs) (s ∷ ss) types (suc i) m is =
    let behind = member_at fs ss (drop (body_size f) types) i m is in
    record { function = behind.function; scheme = behind.scheme; own = behind.own; sites = behind.sites }

-- The member is found whose function is the first of that name. It stands at the first number at which the function does.
pub record IsNamedAt (fs : List FunDef) (ss : List Scheme) (types : List Ty) (name : Label) (f : FunDef) : Type 0 where
  pub number : ℕ
  pub member : TheMember
  pub found : named_member name (members_of fs ss types) ≡ Some member
  pub at : slice_get (members_of fs ss types) number ≡ Some member
  pub function : member.function ≡ f
  pub is : slice_get fs number ≡ Some f
  pub first : (i : ℕ) → slice_get fs i ≡ Some f → number ≤ i

abbrev pub is_named : Label → FunDef → Bool
is_named name f = bytes_eq f.name.text name

-- the member of a first function of that name
named_here : (name : Label) (g : FunDef) (fs : List FunDef) (s : Scheme) (ss : List Scheme) (types : List Ty) → is_named name g ≡ true → IsNamedAt (g ∷ fs) (s ∷ ss) types name g
named_here name g fs s ss types named = record {
  number = 0;
  member = first;
  found = ap (λ b. cond b (Some first) (named_member name (members_of fs ss (drop (body_size g) types)))) named;
  at = refl;
  function = refl;
  is = refl;
  first = λ i is. omega arith;
}
  where
    first : TheMember
    first = member_of g s (take (body_size g) types)

-- that of a function behind one of another name
named_behind : (name : Label) (g f : FunDef) (fs : List FunDef) (s : Scheme) (ss : List Scheme) (types : List Ty) → is_named name g ≡ false → is_named name f ≡ true
    → IsNamedAt fs ss (drop (body_size g) types) name f → IsNamedAt (g ∷ fs) (s ∷ ss) types name f
named_behind name g f fs s ss types other named behind = record {
  number = suc behind.number;
  member = behind.member;
  found = ap (λ b. cond b (Some (member_of g s (take (body_size g) types))) (named_member name (members_of fs ss (drop (body_size g) types)))) other ∙ behind.found;
  at = behind.at;
  function = behind.function;
  is = behind.is;
  first = first;
}
  where
    not_same : g ≡ f → ⊥
    not_same same = true_false (sym named ∙ ap (is_named name) (sym same) ∙ other)

    first : (i : ℕ) → slice_get (g ∷ fs) i ≡ Some f → suc behind.number ≤ i
    first zero is = absurd (not_same (same_Some g f is))
    first (suc i) is = let before = behind.first i is in omega arith

found_named : (name : Label) (fs : List FunDef) (f : FunDef) → find (is_named name) fs ≡ Some f → is_named name f ≡ true
found_named name [] f found = cc
found_named name (g ∷ fs) f found = by_test (is_named name g) refl found (found_named name fs f)
  where
    by_test : (b : Bool) → is_named name g ≡ b → cond b (Some g) (find (is_named name) fs) ≡ Some f → (find (is_named name) fs ≡ Some f → is_named name f ≡ true) → is_named name f ≡ true
    by_test true named found more = ap (is_named name) (sym (same_Some g f found)) ∙ named
    by_test false other found more = more found

pub named_at : (name : Label) (fs : List FunDef) (ss : List Scheme) (types : List Ty) (f : FunDef) → length ss ≡ length fs → find (is_named name) fs ≡ Some f → IsNamedAt fs ss types name f
named_at name [] ss types f long found = cc
named_at name (g ∷ fs) [] types f long found = absurd (omega (arith, long))
named_at name (g ∷ fs) (s ∷ ss) types f long found = by_test (is_named name g) refl found (named_at name fs ss (drop (body_size g) types) f (omega (arith, long)))
  where
    by_test : (b : Bool) → is_named name g ≡ b → cond b (Some g) (find (is_named name) fs) ≡ Some f
        → (find (is_named name) fs ≡ Some f → IsNamedAt fs ss (drop (body_size g) types) name f) → IsNamedAt (g ∷ fs) (s ∷ ss) types name f
    by_test true named found more = subst (IsNamedAt (g ∷ fs) (s ∷ ss) types name) (same_Some g f found) (named_here name g fs s ss types named)
    by_test false other found more = named_behind name g f fs s ss types other (found_named name fs f found) (more found)
