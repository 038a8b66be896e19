-- Where a declaration of a program stands, by what names of functions stand for in its bodies: behind functions that have schemes.
use Rattle.lk_sound.proofs.Beside.{IsBeside, paired, scheme_pairs}
use Rattle.std.proofs.Common.{◌≡◌, ◌⊎◌, inl, inr, ℕ, suc, ◌+◌, ◌<◌, Bool, List, [], ◌∷◌, ◌++◌, flat_map, length, Some, slice_get, refl, sym, ap, ap₂, subst, ◌∙◌}
use native.Mathlib.Omega.{arith}
use Rattle.std.proofs.lemmas.Option.{slice_get_within}
use Rattle.lk_ast.specs.Functions.{functions_in}
use Rattle.lk_ast.specs.declared.declaration.Decl.{Decl}
use Rattle.lk_ast.specs.declared.declaration.FunDef.{FunDef}
use Rattle.lk_ast.specs.declared.declaration.TableDecl.{TableDecl}
use Rattle.lk_infer.specs.Inferred.{IsInferred, AreInferred}
use Rattle.lk_principal.proofs.Places.{get_front, get_back}
use Rattle.lk_principal.specs.Bodies.{IsSeenBy}
use Rattle.lk_types.specs.Rows.{Label}
use Rattle.lk_types.specs.declared.ground.Ground.{Ground}
use Rattle.lk_types.specs.declared.scheme.Scheme.{Scheme}
use Rattle.lk_types.specs.declared.ty.Ty.{Ty}
use Rattle.lk_typing.proofs.SchemeCounts.{as_many_schemes}
use Rattle.lk_typing.specs.Groups.{IsGroup, own_entries, scheme_entries}
use Rattle.lk_typing.specs.Names.{Named, named, Entry}
use Rattle.lk_typing.specs.Programs.{entries}

-- two lists of two parts, whose fronts are as long
pub both_parts : {A : Type 0} (xs ys others rest : List A) → length xs ≡ length ys → xs ++ others ≡ ys ++ rest → (xs ≡ ys) × (others ≡ rest)
both_parts [] [] others rest many is = (refl, is)
both_parts [] (y ∷ ys) others rest many is = absurd (let wrong : 0 ≡ suc (length ys) = many in omega arith)
both_parts (x ∷ xs) [] others rest many is = absurd (let wrong : suc (length xs) ≡ 0 = many in omega arith)
both_parts (x ∷ xs) (y ∷ ys) others rest many is =
    let front : x ≡ y = cc in
    let back : xs ++ others ≡ ys ++ rest = cc in
    let both = both_parts xs ys others rest (omega arith) back in
    (ap₂ (λ z zs. z ∷ zs) front both.0, both.1)

behind_both : (n m j : ℕ) → (n + m) + j ≡ n + (m + j)
behind_both n m j = omega arith

module _ (fs : List FunDef) (all : List Scheme) where
  -- from number n on these are the functions, and these their schemes
  pub record IsFrom (n : ℕ) (later : List FunDef) (rest : List Scheme) : Type 0 where
    pub functions : (j : ℕ) → slice_get fs (n + j) ≡ slice_get later j
    pub schemes : (j : ℕ) → slice_get all (n + j) ≡ slice_get rest j

  pub all_from : IsFrom 0 fs all
  all_from = record { functions = λ j. ap (slice_get fs) (none_before j); schemes = λ j. ap (slice_get all) (none_before j) }
    where
      none_before : (j : ℕ) → 0 + j ≡ j
      none_before j = omega arith

  further : (n : ℕ) (own later : List FunDef) (schemes rest : List Scheme) → length schemes ≡ length own → IsFrom n (own ++ later) (schemes ++ rest) → IsFrom (n + length own) later rest
  further n own later schemes rest many from = record {
    functions = λ j. ap (slice_get fs) (behind_both n (length own) j) ∙ from.functions (length own + j) ∙ get_back own later j;
    schemes = λ j. ap (slice_get all) (behind_both n (length own) j ∙ ap (λ m. n + (m + j)) (sym many)) ∙ from.schemes (length schemes + j) ∙ get_back schemes rest j;
  }

  function_from : (n : ℕ) (own later : List FunDef) (schemes : List Scheme) → IsFrom n (own ++ later) schemes → (j : ℕ) (f : FunDef) → slice_get own j ≡ Some f → slice_get fs (n + j) ≡ Some f
  function_from n own later schemes from j f is = from.functions j ∙ get_front own later j (slice_get_within own j f is) ∙ is

  scheme_from : (n : ℕ) (functions : List FunDef) (own rest : List Scheme) → IsFrom n functions (own ++ rest) → (j : ℕ) (scheme : Scheme) → slice_get own j ≡ Some scheme → slice_get all (n + j) ≡ Some scheme
  scheme_from n functions own rest from j scheme is = from.schemes j ∙ get_front own rest j (slice_get_within own j scheme is) ∙ is

  -- the function of that number has this name and this scheme
  pub record HasScheme (g : Label) (scheme : Scheme) (number : ℕ) : Type 0 where
    pub function : FunDef
    pub is : slice_get fs number ≡ Some function
    pub name : function.name.text ≡ g
    pub has : slice_get all number ≡ Some scheme

  -- names stand for schemes of functions before number n
  abbrev pub AreBefore : ℕ → Named Scheme → Type 0
  AreBefore n earlier = (g : Label) (scheme : Scheme) → named g earlier ≡ Some scheme → (number : ℕ) × (number < n) × HasScheme g scheme number

  more_before : (n : ℕ) (own later : List FunDef) (schemes rest : List Scheme) → IsFrom n (own ++ later) (schemes ++ rest) → (earlier : Named Scheme) → AreBefore n earlier → AreBefore (n + length own) (entries own schemes ++ earlier)
  more_before n own later schemes rest from earlier before g scheme is = by_side (paired (λ s. s) own schemes earlier g scheme (subst (λ front. named g (front ++ earlier) ≡ Some scheme) (scheme_pairs own schemes) is))
    where
      by_side : IsBeside (λ s. s) own schemes g scheme ⊎ (named g earlier ≡ Some scheme) → (number : ℕ) × (number < n + length own) × HasScheme g scheme number
      by_side (inl it) =
          let within : it.place < length own = slice_get_within own it.place it.function it.declared in (
            n + it.place,
            omega arith,
            record {
              function = it.function;
              is = function_from n own later (schemes ++ rest) from it.place it.function it.declared;
              name = it.name;
              has = scheme_from n (own ++ later) schemes rest from it.place scheme (it.beside ∙ ap (λ s. Some s) it.is);
            },
          )
      by_side (inr old) =
          let one = before g scheme old in
          let within : one.0 < n = one.1 in
          (one.0, omega arith, one.2)

  -- ---- where a declaration stands

  pub record IsPlaced (tables : List TableDecl) (decl : Decl) (functions : Named (Entry Ground)) : Type 0 where
    pub offset : ℕ
    pub earlier : Named Scheme
    pub own : List Scheme
    pub inside : List Ty
    pub inferred : IsInferred earlier tables decl own inside
    pub ts : List Ground
    pub nodes : List Ground
    pub group : IsGroup earlier tables decl ts nodes
    pub are : functions ≡ own_entries (functions_in decl) ts ++ scheme_entries earlier
    pub before : AreBefore offset earlier
    pub function_at : (j : ℕ) (f : FunDef) → slice_get (functions_in decl) j ≡ Some f → slice_get fs (offset + j) ≡ Some f
    pub scheme_at : (j : ℕ) (scheme : Scheme) → slice_get own j ≡ Some scheme → slice_get all (offset + j) ≡ Some scheme

  module _ (tables : List TableDecl) (decl : Decl) where
    pub placed : (large : Bool) (earlier : Named Scheme) (decls : List Decl) (rest those : List Scheme) (types : List Ty) (functions : Named (Entry Ground)) (n : ℕ)
        → AreInferred tables large earlier decls rest types → IsSeenBy tables decl earlier decls those functions → rest ≡ those
        → IsFrom n (flat_map functions_in decls) rest → AreBefore n earlier → IsPlaced tables decl functions
    placed large earlier _ _ those _ functions n AreInferred.none seen same from before = elim seen [ ]
    placed large earlier _ _ those _ _ n (AreInferred.more own rest inside others inferred fine later) (IsSeenBy.here {decls = decls} ts nodes group) same from before = record {
      offset = n;
      earlier = earlier;
      own = own;
      inside = inside;
      inferred = inferred;
      ts = ts;
      nodes = nodes;
      group = group;
      are = refl;
      before = before;
      function_at = function_from n (functions_in decl) (flat_map functions_in decls) (own ++ rest) from;
      scheme_at = scheme_from n (functions_in decl ++ flat_map functions_in decls) own rest from;
    }
    placed large earlier _ _ _ _ functions n (AreInferred.more own others inside types inferred fine later) (IsSeenBy.later {other = other} {decls = decls} schemes rest many seen) same from before =
        let as_many : length own ≡ length (functions_in other) = as_many_schemes earlier tables other own inferred.hold in
        let both : (own ≡ schemes) × (others ≡ rest) = both_parts own schemes others rest (as_many ∙ sym many) same in
        placed _ (entries (functions_in other) own ++ earlier) decls others rest types functions (n + length (functions_in other)) later
        (subst (λ s. IsSeenBy tables decl (entries (functions_in other) s ++ earlier) decls rest functions) (sym both.0) seen)
        both.1 (further n (functions_in other) (flat_map functions_in decls) own others as_many from)
        (more_before n (functions_in other) (flat_map functions_in decls) own others from earlier before)
