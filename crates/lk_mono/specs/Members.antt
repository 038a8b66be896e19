-- The functions of a program with what is inferred of them, each with its own.
use Rattle.std.specs.Prelude.{List, [], ◌∷◌, Option, bytes_eq, drop, find, take}
use Rattle.lk_ast.specs.declared.declaration.FunDef.{FunDef}
use Rattle.lk_mono.specs.declared.member.Member.{Member}
use Rattle.lk_outline.specs.Outline.{Site, body_outline}
use Rattle.lk_outline.specs.Shown.{shown}
use Rattle.lk_principal.specs.Bodies.{body_size}
use Rattle.lk_types.specs.Rows.{Label}
use Rattle.lk_types.specs.declared.scheme.Scheme.{Scheme}
use Rattle.lk_types.specs.declared.ty.Ty.{Ty}

-- a function, its scheme, the principal types of its nodes and its outline
pub record TheMember : Type 0 where
  pub function : FunDef
  pub scheme : Scheme
  pub types : List Ty
  pub sites : List Site

abbrev pub as_member : Member → TheMember
as_member m = record { function = m.function.now; scheme = m.scheme.now; types = m.types; sites = shown m.sites }

abbrev pub member_of : FunDef → Scheme → List Ty → TheMember
member_of f scheme types = record { function = f; scheme = scheme; types = types; sites = body_outline f.params f.body }

abbrev pub members_of : List FunDef → List Scheme → List Ty → List TheMember
members_of [] schemes types = []
members_of (f ∷ fs) [] types = []
members_of (f ∷ fs) (scheme ∷ schemes) types = member_of f scheme (take (body_size f) types) ∷ members_of fs schemes (drop (body_size f) types)

abbrev pub named_member : Label → List TheMember → Option TheMember
named_member name members = find (λ m. bytes_eq m.function.name.text name) members
