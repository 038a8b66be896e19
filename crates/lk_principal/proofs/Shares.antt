-- Shares of the nodes of several functions: a typed function has as many nodes as its body.
use Rattle.std.proofs.Common.{◌≡◌, ℕ, zero, suc, ◌+◌, ◌≤◌, Bool, List, [], ◌∷◌, ◌++◌, map, length, take, drop, Some, slice_get, refl, sym, ap, ap₂, subst₂, ◌∙◌}
use native.Mathlib.Omega.{arith}
use Rattle.std.proofs.Math.Seq.{take-append_seam, drop-append_seam}
use Rattle.std.proofs.lemmas.List.{length-append, take-append-le, drop-append-le, take-map, drop-map}
use Rattle.std.proofs.lemmas.Option.{none-some, slice_get-map}
use Rattle.std.specs.Option.{option_map}
use Rattle.lk_ast.specs.declared.declaration.FunDef.{FunDef}
use Rattle.lk_ast.specs.declared.declaration.TableDecl.{TableDecl}
use Rattle.lk_outline.specs.Law.{LengthLaw}
use Rattle.lk_principal.specs.Bodies.{body_size, shares}
use Rattle.lk_types.proofs.Parts.{same_some}
use Rattle.lk_types.specs.Grounding.{Grounding, under}
use Rattle.lk_types.specs.declared.ground.Ground.{Ground}
use Rattle.lk_types.specs.declared.ty.Ty.{Ty}
use Rattle.lk_typing.specs.Groups.{IsFunction, AreFunctions}
use Rattle.lk_typing.specs.Law.{Become}
use Rattle.lk_typing.specs.Names.{Named, Entry}

-- how many nodes the bodies of functions have together
abbrev pub total : List FunDef → ℕ
total [] = 0
total (f ∷ fs) = body_size f + total fs

length_behind : {A : Type 0} (n : ℕ) (xs : List A) (rest : ℕ) → length xs ≡ n + rest → length (drop n xs) ≡ rest
length_behind zero xs rest many = omega arith
length_behind (suc n) [] rest many = absurd (let wrong : 0 ≡ suc n + rest = many in omega arith)
length_behind (suc n) (x ∷ xs) rest many = length_behind n xs rest (let all : suc (length xs) ≡ suc n + rest = many in omega arith)

pub as_many_shares : {A : Type 0} (fs : List FunDef) (xs : List A) → length (shares fs xs) ≡ length fs
as_many_shares [] xs = refl
as_many_shares (f ∷ fs) xs = ap (λ n. suc n) (as_many_shares fs (drop (body_size f) xs))

-- those of two lists of functions
pub shares_both : {A : Type 0} (fs gs : List FunDef) (xs ys : List A) → length xs ≡ total fs → shares (fs ++ gs) (xs ++ ys) ≡ shares fs xs ++ shares gs ys
shares_both [] gs [] ys many = refl
shares_both [] gs (x ∷ xs) ys many = absurd (let wrong : suc (length xs) ≡ 0 = many in omega arith)
shares_both {A = A} (f ∷ fs) gs xs ys many = by_size (body_size f) many (shares_both fs gs (drop (body_size f) xs) ys)
  where
    by_size : (n : ℕ) → length xs ≡ n + total fs → (length (drop n xs) ≡ total fs → shares (fs ++ gs) (drop n xs ++ ys) ≡ shares fs (drop n xs) ++ shares gs ys)
        → ◌≡◌ {A = List (List A)} (take n (xs ++ ys) ∷ shares (fs ++ gs) (drop n (xs ++ ys))) ((take n xs ∷ shares fs (drop n xs)) ++ shares gs ys)
    by_size n size later =
        let few : n ≤ length xs = omega arith in
        ap₂ (λ own rest. own ∷ rest) (take-append-le n xs ys few)
        (ap (shares (fs ++ gs)) (drop-append-le n xs ys few) ∙ later (length_behind n xs (total fs) size))

pub shares_map : {A B : Type 0} (h : A → B) (fs : List FunDef) (xs : List A) → shares fs (map h xs) ≡ map (map h) (shares fs xs)
shares_map h [] xs = refl
shares_map h (f ∷ fs) xs =
    ap₂ (λ own rest. own ∷ rest) (take-map h (body_size f) xs)
    (ap (shares fs) (drop-map h (body_size f) xs) ∙ shares_map h fs (drop (body_size f) xs))

-- what types become, its share becomes
pub share_becomes : (σ : Grounding) (fs : List FunDef) (types : List Ty) (nodes : List Ground) → Become σ types nodes
    → (i : ℕ) (mine : List Ty) (own : List Ground) → slice_get (shares fs types) i ≡ Some mine → slice_get (shares fs nodes) i ≡ Some own → Become σ mine own
share_becomes σ fs types nodes become i mine own is at =
    let both = sym (shares_map (under σ) fs types) ∙ ap (shares fs) become ∙ shares_map (λ t. Some t) fs nodes in
    same_some
    (ap (option_map (map (under σ))) (sym is) ∙ sym (slice_get-map (map (under σ)) (shares fs types) i) ∙ ap (λ all. slice_get all i) both
    ∙ slice_get-map (map (λ t. Some t)) (shares fs nodes) i ∙ ap (option_map (map (λ t. Some t))) at)

-- ---- typed functions

module _ (law : LengthLaw) (functions : Named (Entry Ground)) (tables : List TableDecl) (in_mutual : Bool) where
  function_size : (f : FunDef) (t : Ground) (nodes : List Ground) → IsFunction functions tables in_mutual f t nodes → length nodes ≡ body_size f
  function_size f t nodes typed = ap length typed.all ∙ law functions tables typed.params f.params typed.effects f.body typed.answer typed.inside typed.body

  pub functions_size : (fs : List FunDef) (ts nodes : List Ground) → AreFunctions functions tables in_mutual fs ts nodes → length nodes ≡ total fs
  functions_size _ _ _ AreFunctions.none = refl
  functions_size _ _ _ (AreFunctions.more {f = f} {fs = fs} {t = t} {ts = ts} nodes rest typed later) =
      length-append nodes rest ∙ ap₂ (λ m n. m + n) (function_size f t nodes typed) (functions_size fs ts rest later)

  -- a function of them, with its nodes
  pub record IsOneOf (fs : List FunDef) (nodes : List Ground) (i : ℕ) (f : FunDef) (t : Ground) : Type 0 where
    pub own : List Ground
    pub typed : IsFunction functions tables in_mutual f t own
    pub share : slice_get (shares fs nodes) i ≡ Some own

  pub function_there : (fs : List FunDef) (ts nodes : List Ground) → AreFunctions functions tables in_mutual fs ts nodes
      → (i : ℕ) (f : FunDef) (t : Ground) → slice_get fs i ≡ Some f → slice_get ts i ≡ Some t → IsOneOf fs nodes i f t
  function_there _ _ _ AreFunctions.none i f t is at = absurd (none-some f is)
  function_there _ _ _ (AreFunctions.more {f = g} {fs = fs} {t = u} {ts = ts} nodes rest typed later) zero f t is at = record {
    own = nodes;
    typed = subst₂ (λ f t. IsFunction functions tables in_mutual f t nodes) (same_some is) (same_some at) typed;
    share = ap (λ n. Some (take n (nodes ++ rest))) (sym (function_size g u nodes typed)) ∙ ap (λ own. Some own) (take-append_seam nodes rest);
  }
  function_there _ _ _ (AreFunctions.more {f = g} {fs = fs} {t = u} {ts = ts} nodes rest typed later) (suc i) f t is at =
      let one : IsOneOf fs rest i f t = function_there fs ts rest later i f t is at in
      let behind : drop (body_size g) (nodes ++ rest) ≡ rest = ap (λ n. drop n (nodes ++ rest)) (sym (function_size g u nodes typed)) ∙ drop-append_seam nodes rest in
      record { own = one.own; typed = one.typed; share = ap (λ all. slice_get (shares fs all) i) behind ∙ one.share }
