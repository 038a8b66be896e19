-- Where a function of some declarations stands, and what was inferred of its declaration. Each function has a scheme, and a
-- scheme has an instance in which the least stands for all variables.
use Rattle.std.proofs.Common.{◌≡◌, ◌⊎◌, inl, inr, ℕ, ◌+◌, ◌<◌, Bool, List, ◌∷◌, ◌++◌, flat_map, length, Some, slice_get, refl, sym, ap, ap₂, ◌∙◌}
use Rattle.std.proofs.lemmas.List.{length-append, length-map}
use Rattle.std.proofs.lemmas.Option.{none-some}
use Rattle.lk_ast.specs.Functions.{functions_in}
use Rattle.lk_ast.specs.declared.declaration.Decl.{Decl}
use Rattle.lk_ast.specs.declared.declaration.FunDef.{FunDef}
use Rattle.lk_ast.specs.declared.declaration.TableDecl.{TableDecl}
use Rattle.lk_infer.specs.Inferred.{IsInferred, AreInferred}
use Rattle.lk_outline.specs.Law.{LengthLaw}
use Rattle.lk_principal.proofs.Places.{side, other_front, other_back}
use Rattle.lk_principal.proofs.Shares.{total, as_many_shares, shares_both, functions_size}
use Rattle.lk_principal.specs.Bodies.{IsSeenBy, shares}
use Rattle.lk_types.specs.Grounding.{Grounding, under}
use Rattle.lk_types.specs.declared.ground.Ground.{Ground}
use Rattle.lk_types.specs.declared.scheme.Scheme.{Scheme}
use Rattle.lk_types.specs.declared.ty.Ty.{Ty}
use Rattle.lk_typing.proofs.SchemeCounts.{as_many_schemes}
use Rattle.lk_typing.specs.Groups.{IsGroup, is_mutual, own_entries, scheme_entries}
use Rattle.lk_typing.specs.Law.{Become}
use Rattle.lk_typing.specs.Names.{Named}
use Rattle.lk_typing.specs.Programs.{AreInstances, Hold, entries}

-- ---- lengths

become_length : (σ : Grounding) (types : List Ty) (nodes : List Ground) → Become σ types nodes → length types ≡ length nodes
become_length σ types nodes become = sym (length-map types (under σ)) ∙ ap length become ∙ length-map nodes (λ t. Some t)

-- as many types as nodes
as_many_nodes : LengthLaw → (earlier : Named Scheme) (tables : List TableDecl) (decl : Decl) (schemes : List Scheme) (types : List Ty) → IsInferred earlier tables decl schemes types → length types ≡ total (functions_in decl)
as_many_nodes law earlier tables decl schemes types inferred =
    let some : (ts : List Ground) × AreInstances schemes ts = inferred.hold.some in
    let group : (nodes : List Ground) × IsGroup earlier tables decl some.0 nodes = inferred.hold.each some.0 some.1 in
    let at = inferred.general some.0 group.0 group.1 in
    become_length at.0 types group.0 at.2
    ∙ functions_size law (own_entries (functions_in decl) some.0 ++ scheme_entries earlier) tables (is_mutual decl) (functions_in decl) some.0 group.0 group.1

pub all_schemes : (tables : List TableDecl) (large : Bool) (earlier : Named Scheme) (decls : List Decl) (schemes : List Scheme) (types : List Ty) → AreInferred tables large earlier decls schemes types
    → length schemes ≡ length (flat_map functions_in decls)
all_schemes tables large earlier _ _ _ AreInferred.none = refl
all_schemes tables large earlier _ _ _ (AreInferred.more {decl = decl} {decls = decls} schemes rest types others inferred fine later) =
    length-append schemes rest
    ∙ ap₂ (λ m n. m + n) (as_many_schemes earlier tables decl schemes inferred.hold) (all_schemes tables _ (entries (functions_in decl) schemes ++ earlier) decls rest others later)
    ∙ sym (length-append (functions_in decl) (flat_map functions_in decls))

-- ---- a scheme of some declarations

module _ (tables : List TableDecl) where
  -- its declaration
  pub record IsHeld (scheme : Scheme) : Type 0 where
    pub earlier : Named Scheme
    pub decl : Decl
    pub own : List Scheme
    pub hold : Hold earlier tables decl own
    pub place : ℕ
    pub has : slice_get own place ≡ Some scheme

  pub held : (large : Bool) (earlier : Named Scheme) (decls : List Decl) (schemes : List Scheme) (types : List Ty) → AreInferred tables large earlier decls schemes types
      → (i : ℕ) (scheme : Scheme) → slice_get schemes i ≡ Some scheme → IsHeld scheme
  held large earlier _ _ _ AreInferred.none i scheme is = absurd (none-some scheme is)
  held large earlier _ _ _ (AreInferred.more {decl = decl} {decls = decls} schemes rest types others inferred fine later) i scheme is =
      by_side (side schemes rest i scheme is) (held _ (entries (functions_in decl) schemes ++ earlier) decls rest others later)
    where
      by_side : ((i < length schemes) × (slice_get schemes i ≡ Some scheme)) ⊎ ((j : ℕ) × (i ≡ length schemes + j) × (slice_get rest j ≡ Some scheme))
          → ((j : ℕ) (scheme : Scheme) → slice_get rest j ≡ Some scheme → IsHeld scheme) → IsHeld scheme
      by_side (inl own) later = record { earlier = earlier; decl = decl; own = schemes; hold = inferred.hold; place = i; has = own.1 }
      by_side (inr other) later = later other.0 scheme other.2

  -- ---- a function of some declarations

  pub record IsThere (earlier : Named Scheme) (decls : List Decl) (schemes : List Scheme) (types : List Ty) (i : ℕ) (f : FunDef) (scheme : Scheme) : Type 0 where
    pub before : Named Scheme
    pub decl : Decl
    pub own : List Scheme
    pub inside : List Ty
    pub inferred : IsInferred before tables decl own inside
    pub place : ℕ
    pub declared : slice_get (functions_in decl) place ≡ Some f
    pub has : slice_get own place ≡ Some scheme
    pub seen : (ts nodes : List Ground) → IsGroup before tables decl ts nodes → IsSeenBy tables decl earlier decls schemes (own_entries (functions_in decl) ts ++ scheme_entries before)
    pub share : (mine : List Ty) → slice_get (shares (flat_map functions_in decls) types) i ≡ Some mine → slice_get (shares (functions_in decl) inside) place ≡ Some mine

  module _ (law : LengthLaw) where
    -- the shares of two parts at a place
    shares_split : (earlier : Named Scheme) (decl : Decl) (decls : List Decl) (schemes : List Scheme) (types others : List Ty) → IsInferred earlier tables decl schemes types
        → shares (functions_in decl ++ flat_map functions_in decls) (types ++ others) ≡ shares (functions_in decl) types ++ shares (flat_map functions_in decls) others
    shares_split earlier decl decls schemes types others inferred = shares_both (functions_in decl) (flat_map functions_in decls) types others (as_many_nodes law earlier tables decl schemes types inferred)

    pub there : (large : Bool) (earlier : Named Scheme) (decls : List Decl) (schemes : List Scheme) (types : List Ty) → AreInferred tables large earlier decls schemes types
        → (i : ℕ) (f : FunDef) (scheme : Scheme) → slice_get (flat_map functions_in decls) i ≡ Some f → slice_get schemes i ≡ Some scheme → IsThere earlier decls schemes types i f scheme
    there large earlier _ _ _ AreInferred.none i f scheme is at = absurd (none-some f is)
    there large earlier _ _ _ (AreInferred.more {decl = decl} {decls = decls} schemes rest types others inferred fine later) i f scheme is at =
        by_side (side (functions_in decl) (flat_map functions_in decls) i f is) (there _ (entries (functions_in decl) schemes ++ earlier) decls rest others later)
      where
        many : length schemes ≡ length (functions_in decl)
        many = as_many_schemes earlier tables decl schemes inferred.hold

        many_shares : length (shares (functions_in decl) types) ≡ length (functions_in decl)
        many_shares = as_many_shares (functions_in decl) types

        split : shares (functions_in decl ++ flat_map functions_in decls) (types ++ others) ≡ shares (functions_in decl) types ++ shares (flat_map functions_in decls) others
        split = shares_split earlier decl decls schemes types others inferred

        by_side : ((i < length (functions_in decl)) × (slice_get (functions_in decl) i ≡ Some f)) ⊎ ((j : ℕ) × (i ≡ length (functions_in decl) + j) × (slice_get (flat_map functions_in decls) j ≡ Some f))
            → ((j : ℕ) (f : FunDef) (scheme : Scheme) → slice_get (flat_map functions_in decls) j ≡ Some f → slice_get rest j ≡ Some scheme → IsThere (entries (functions_in decl) schemes ++ earlier) decls rest others j f scheme)
            → IsThere earlier (decl ∷ decls) (schemes ++ rest) (types ++ others) i f scheme
        by_side (inl own) later = record {
          before = earlier;
          decl = decl;
          own = schemes;
          inside = types;
          inferred = inferred;
          place = i;
          declared = own.1;
          has = other_front (functions_in decl) schemes rest i scheme many own.0 at;
          seen = λ ts nodes group. IsSeenBy.here ts nodes group;
          share = λ mine its. other_front (functions_in decl) (shares (functions_in decl) types) (shares (flat_map functions_in decls) others) i mine many_shares own.0 (ap (λ all. slice_get all i) (sym split) ∙ its);
        }
        by_side (inr other) later =
            let its_scheme : slice_get rest other.0 ≡ Some scheme = other_back (functions_in decl) schemes rest i other.0 scheme many other.1 at in
            let one : IsThere (entries (functions_in decl) schemes ++ earlier) decls rest others other.0 f scheme = later other.0 f scheme other.2 its_scheme in
            record {
              before = one.before;
              decl = one.decl;
              own = one.own;
              inside = one.inside;
              inferred = one.inferred;
              place = one.place;
              declared = one.declared;
              has = one.has;
              seen = λ ts nodes group. IsSeenBy.later schemes rest many (one.seen ts nodes group);
              share = λ mine its. one.share mine (other_back (functions_in decl) (shares (functions_in decl) types) (shares (flat_map functions_in decls) others) i other.0 mine many_shares other.1 (ap (λ all. slice_get all i) (sym split) ∙ its));
            }
