-- What names of functions stand for: what stands beside a function of that name, or what they stood for before.
use Rattle.std.proofs.Common.{◌≡◌, ◌⊎◌, inl, inr, ℕ, zero, suc, Bool, true, false, List, [], ◌∷◌, ◌++◌, Some, slice_get, bytes_eq, if◌then◌else◌, refl, ap}
use Rattle.std.proofs.lemmas.Option.{none-some}
use Rattle.std.proofs.lemmas.Slice.Eq.{bytes_eq-Decides}
use Rattle.lk_ast.specs.declared.declaration.FunDef.{FunDef}
use Rattle.lk_types.proofs.Parts.{same_some}
use Rattle.lk_types.specs.Rows.{Label}
use Rattle.lk_types.specs.declared.ground.Ground.{Ground}
use Rattle.lk_types.specs.declared.scheme.Scheme.{Scheme}
use Rattle.lk_typing.specs.Groups.{own_entries, scheme_entries}
use Rattle.lk_typing.specs.Names.{Named, named, Entry, One, Many}
use Rattle.lk_typing.specs.Programs.{entries}

-- ---- what stands beside a function

module _ {A B : Type 0} (put : A → B) where
  -- functions with what is put for the first thing, and so on
  abbrev pub pairs : List FunDef → List A → Named B
  pairs [] xs = []
  pairs (f ∷ fs) [] = []
  pairs (f ∷ fs) (x ∷ xs) = (f.name.text, put x) ∷ pairs fs xs

  -- it is put for the thing beside a function of that name
  pub record IsBeside (fs : List FunDef) (xs : List A) (g : Label) (y : B) : Type 0 where
    pub place : ℕ
    pub function : FunDef
    pub thing : A
    pub declared : slice_get fs place ≡ Some function
    pub beside : slice_get xs place ≡ Some thing
    pub name : function.name.text ≡ g
    pub is : put thing ≡ y

  one_further : {fs : List FunDef} {xs : List A} {g : Label} {y : B} (f : FunDef) (x : A) (Other : Type 0) → IsBeside fs xs g y ⊎ Other → IsBeside (f ∷ fs) (x ∷ xs) g y ⊎ Other
  one_further f x Other (inl it) = inl (record { place = suc it.place; function = it.function; thing = it.thing; declared = it.declared; beside = it.beside; name = it.name; is = it.is })
  one_further f x Other (inr other) = inr other

  -- a name that stands for something stands for what is put beside a function of that name, or for what it stands for behind them
  pub paired : (fs : List FunDef) (xs : List A) (behind : Named B) (g : Label) (y : B) → named g (pairs fs xs ++ behind) ≡ Some y → IsBeside fs xs g y ⊎ (named g behind ≡ Some y)
  paired [] xs behind g y is = inr is
  paired (f ∷ fs) [] behind g y is = inr is
  paired (f ∷ fs) (x ∷ xs) behind g y is = by_test (bytes_eq f.name.text g) refl is (paired fs xs behind g y)
    where
      by_test : (b : Bool) → bytes_eq f.name.text g ≡ b → (if b then Some (put x) else named g (pairs fs xs ++ behind)) ≡ Some y
          → (named g (pairs fs xs ++ behind) ≡ Some y → IsBeside fs xs g y ⊎ (named g behind ≡ Some y)) → IsBeside (f ∷ fs) (x ∷ xs) g y ⊎ (named g behind ≡ Some y)
      by_test true same is later = inl (record { place = zero; function = f; thing = x; declared = refl; beside = refl; name = (bytes_eq-Decides f.name.text g).0 same; is = same_some is })
      by_test false other is later = one_further f x (named g behind ≡ Some y) (later is)

pub own_pairs : {A : Type 0} (fs : List FunDef) (ts : List A) → own_entries fs ts ≡ pairs One fs ts
own_pairs [] ts = refl
own_pairs (f ∷ fs) [] = refl
own_pairs (f ∷ fs) (t ∷ ts) = ap (λ rest. (f.name.text, One t) ∷ rest) (own_pairs fs ts)

pub scheme_pairs : (fs : List FunDef) (schemes : List Scheme) → entries fs schemes ≡ pairs (λ scheme. scheme) fs schemes
scheme_pairs [] schemes = refl
scheme_pairs (f ∷ fs) [] = refl
scheme_pairs (f ∷ fs) (scheme ∷ schemes) = ap (λ rest. (f.name.text, scheme) ∷ rest) (scheme_pairs fs schemes)

-- a name that stands for something among functions of earlier groups stands for its scheme
pub earlier_named : (earlier : Named Scheme) (g : Label) (entry : Entry Ground) → named g (scheme_entries earlier) ≡ Some entry
    → (scheme : Scheme) × (named g earlier ≡ Some scheme) × (Many scheme ≡ entry)
earlier_named [] g entry is = absurd (none-some entry is)
earlier_named (one ∷ earlier) g entry is = by_test (bytes_eq one.0 g) is (earlier_named earlier g entry)
  where
    by_test : (b : Bool) → (if b then Some (Many one.1) else named g (scheme_entries earlier)) ≡ Some entry
        → (named g (scheme_entries earlier) ≡ Some entry → (scheme : Scheme) × (named g earlier ≡ Some scheme) × (Many scheme ≡ entry))
        → (scheme : Scheme) × ((if b then Some one.1 else named g earlier) ≡ Some scheme) × (Many scheme ≡ entry)
    by_test true is later = (one.1, refl, same_some is)
    by_test false is later = later is
