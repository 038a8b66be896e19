-- The function of an instance stands among the members with what is inferred of it, as the first of its name.
use Rattle.std.proofs.Common.{◌≡◌, inl, inr, ℕ, zero, suc, Bool, true, false, cond, Bor, List, [], ◌∷◌, map, drop, take, Option, Some, None, find, slice_get, bytes_eq, refl, sym, ap, subst, ◌∙◌}
use Rattle.std.proofs.lemmas.Option.{none-some}
use Rattle.std.proofs.lemmas.Slice.Eq.{bytes_eq-Decides}
use Rattle.std.specs.Option.{option_map}
use Rattle.lk_ast.specs.Functions.{functions_of, function_named, is_named}
use Rattle.lk_ast.specs.declared.declaration.FunDef.{FunDef}
use Rattle.lk_mono.specs.Held.{IsSource}
use Rattle.lk_mono.specs.Members.{as_member, member_of, members_of, named_member}
use Rattle.lk_mono.specs.declared.body.Source.{Source}
use Rattle.lk_mono.specs.declared.member.Member.{Member}
use Rattle.lk_sound.specs.Nodes.{Use}
use Rattle.lk_principal.proofs.FunctionNames.{names}
use Rattle.lk_principal.specs.Bodies.{body_size, shares}
use Rattle.lk_principal.specs.Law.{IsInstanceOf}
use Rattle.lk_sound.proofs.Apart.{functions_apart}
use Rattle.lk_sound.proofs.Names.{AreDistinct, IsAmong}
use Rattle.lk_types.proofs.Parts.{same_some}
use Rattle.lk_types.specs.Grounding.{Grounding}
use Rattle.lk_types.specs.Rows.{Label}
use Rattle.lk_types.specs.Schemes.{IsInstance}
use Rattle.lk_types.specs.declared.scheme.Scheme.{Scheme}
use Rattle.lk_types.specs.declared.ty.Ty.{Ty}

-- ---- functions with their own

-- what is found by its name has it
pub name_of : (fs : List FunDef) (name : Label) (f : FunDef) → find (is_named name) fs ≡ Some f → f.name.text ≡ name
name_of [] name f is = absurd (none-some f is)
name_of (g ∷ fs) name f is = by_test (bytes_eq g.name.text name) refl is (name_of fs name f)
  where
    by_test : (b : Bool) → bytes_eq g.name.text name ≡ b → cond b (Some g) (find (is_named name) fs) ≡ Some f → (find (is_named name) fs ≡ Some f → f.name.text ≡ name) → f.name.text ≡ name
    by_test true same is later = ap (λ (h : FunDef). h.name.text) (sym (same_some is)) ∙ (bytes_eq-Decides g.name.text name).0 same
    by_test false other is later = later is

-- each function has a share
pub share_at : (fs : List FunDef) (types : List Ty) (i : ℕ) (f : FunDef) → slice_get fs i ≡ Some f → (own : List Ty) × (slice_get (shares fs types) i ≡ Some own)
share_at [] types i f is = absurd (none-some f is)
share_at (g ∷ fs) types zero f is = (take (body_size g) types, refl)
share_at (g ∷ fs) types (suc i) f is = share_at fs (drop (body_size g) types) i f is

named_at : (fs : List FunDef) (i : ℕ) (f : FunDef) → slice_get fs i ≡ Some f → IsAmong f.name.text (names fs)
named_at [] i f is = absurd (none-some f is)
named_at (g ∷ fs) zero f is = inl (ap (λ (h : FunDef). h.name.text) (same_some is))
named_at (g ∷ fs) (suc i) f is = inr (named_at fs i f is)

-- the one of that name stands with its own
pub own_member : (fs : List FunDef) (schemes : List Scheme) (types : List Ty) (i : ℕ) (f : FunDef) (scheme : Scheme) (own : List Ty) → AreDistinct (names fs)
    → slice_get fs i ≡ Some f → slice_get schemes i ≡ Some scheme → slice_get (shares fs types) i ≡ Some own
    → named_member f.name.text (members_of fs schemes types) ≡ Some (member_of f scheme own)
own_member [] schemes types i f scheme own distinct is has share = absurd (none-some f is)
own_member (g ∷ fs) [] types i f scheme own distinct is has share = absurd (none-some scheme has)
own_member (g ∷ fs) (s ∷ schemes) types zero f scheme own distinct is has share =
    ap (λ b. cond b (Some (member_of g s (take (body_size g) types))) (named_member f.name.text (members_of fs schemes (drop (body_size g) types))))
    ((bytes_eq-Decides g.name.text f.name.text).1 (ap (λ (h : FunDef). h.name.text) (same_some is)))
    ∙ (λ j. Some (member_of (same_some is j) (same_some has j) (same_some share j)))
own_member (g ∷ fs) (s ∷ schemes) types (suc i) f scheme own distinct is has share =
    by_test (bytes_eq g.name.text f.name.text) refl (own_member fs schemes (drop (body_size g) types) i f scheme own distinct.1 is has share)
  where
    by_test : (b : Bool) → bytes_eq g.name.text f.name.text ≡ b → named_member f.name.text (members_of fs schemes (drop (body_size g) types)) ≡ Some (member_of f scheme own)
        → cond b (Some (member_of g s (take (body_size g) types))) (named_member f.name.text (members_of fs schemes (drop (body_size g) types))) ≡ Some (member_of f scheme own)
    by_test true same later =
        let named : g.name.text ≡ f.name.text = (bytes_eq-Decides g.name.text f.name.text).0 same in
        absurd (distinct.0 (subst (λ x. IsAmong x (names fs)) (sym named) (named_at fs i f is)))
    by_test false other later = later

-- ---- the member of an instance

pub record IsMemberOf (source : Source) (u : Use) (m : Member) : Type 0 where
  pub number : ℕ
  pub function : FunDef
  pub scheme : Scheme
  pub own : List Ty
  pub σ : Grounding
  pub is : slice_get (functions_of source.program.now) number ≡ Some function
  pub named : function_named source.program.now u.name ≡ Some function
  pub has : slice_get source.typed.now.schemes number ≡ Some scheme
  pub share : slice_get (shares (functions_of source.program.now) source.typed.now.types) number ≡ Some own
  pub instance : IsInstance σ scheme u.type
  pub name : function.name.text ≡ u.name
  pub member : as_member m ≡ member_of function scheme own

module _ (source : Source) (is : IsSource source) (u : Use) (instance : IsInstanceOf source.program.now source.typed.now.schemes u.name u.type)
    (found : Option (Bor Member)) (ensures : option_map (λ (m : Bor Member). as_member m.now) found ≡ named_member u.name (map as_member source.members.now)) where
  abbrev own_share : (own : List Ty) × (slice_get (shares (functions_of source.program.now) source.typed.now.types) instance.number ≡ Some own)
  own_share = share_at (functions_of source.program.now) source.typed.now.types instance.number instance.function instance.is

  its_name : instance.function.name.text ≡ u.name
  its_name = name_of (functions_of source.program.now) u.name instance.function instance.named

  found_is : option_map (λ (m : Bor Member). as_member m.now) found ≡ Some (member_of instance.function instance.scheme own_share.0)
  found_is =
      ensures ∙ ap (named_member u.name) is.members
      ∙ ap (λ name. named_member name (members_of (functions_of source.program.now) source.typed.now.schemes source.typed.now.types)) (sym its_name)
      ∙ own_member (functions_of source.program.now) source.typed.now.schemes source.typed.now.types instance.number instance.function instance.scheme own_share.0
      (functions_apart source.program.now is.bound) instance.is instance.has own_share.1

  pub some_member : found ≡ None → ⊥
  some_member none = none-some _ (ap (option_map (λ (m : Bor Member). as_member m.now)) (sym none) ∙ found_is)

  pub is_member : (m : Bor Member) → found ≡ Some m → IsMemberOf source u m.now
  is_member m some = record {
    number = instance.number;
    function = instance.function;
    scheme = instance.scheme;
    own = own_share.0;
    σ = instance.σ;
    is = instance.is;
    named = instance.named;
    has = instance.has;
    share = own_share.1;
    instance = instance.instance;
    name = its_name;
    member = same_some (ap (option_map (λ (m : Bor Member). as_member m.now)) (sym some) ∙ found_is);
  }
