-- Values that a frame keeps, bound to the names that its continuation keeps, are of the types that a context tells of these names.
use Rattle.std.proofs.Common.{◌≡◌, refl, sym, ap, subst, ◌∙◌, ℕ, suc, Bool, true, false, ◌==◌, List, [], ◌∷◌, Option, Some, None, length, map, if◌then◌else◌}
use Rattle.std.proofs.lemmas.Bool.{eqb-true}
use Rattle.std.proofs.lemmas.Cmp.{nat_cmp_total, tied_itself}
use Rattle.std.proofs.lemmas.Option.{none-some}
use Rattle.std.specs.List.{AllByRecursion}
use Rattle.std.specs.List.Sorted.{IsStrictlySortedBy}
use Rattle.std.specs.Ordering.{nat_cmp}
use Rattle.std.specs.declared.cmp.Ordering.TheVariants.{Less, Equal}
use Rattle.lk_ast.specs.declared.value.Value.{Value}
use Rattle.lk_fits.specs.Values.{Fits, FitEach, none_left}
use Rattle.lk_ir.proofs.Lookups.{equal_self}
use Rattle.lk_ir.specs.Environments.{Env, bind_each, no_names}
use Rattle.lk_ir.specs.Tables.{names_of}
use Rattle.lk_ir.specs.Uses as used
use Rattle.lk_ir.specs.Uses.{Among, KeepsJust}
use Rattle.lk_ir.specs.declared.nodes.Cont.{Cont}
use Rattle.lk_ir.specs.declared.nodes.Forms.{Forms}
use Rattle.lk_ir.specs.declared.nodes.Kept.{Kept}
use Rattle.lk_types.proofs.Parts.{mapped, same_some}
use Rattle.lk_types.specs.Each.{Each as EachOf}
use Rattle.lk_types.specs.declared.ground.Ground.{Ground}
use Rattle.lk_code.proofs.Naming.{AreFound, Has, bound_each, found_more}
use Rattle.lk_code.specs.Acting.{FitNames}
use Rattle.lk_code.specs.Parts.{AreDistinct, Context, Info, type_in, under_names}
use Rattle.lk_code.specs.Tables.{type_at}
use Rattle.lk_code.specs.Told.{all_of, kept_types}

-- ---- names in order stand once

not_below : (x : ℕ) (xs : List ℕ) → AllByRecursion (λ y. nat_cmp x y ≡ Less) xs → Among x xs → ⊥
not_below x _ below used.here = let wrong : Less ≡ Equal = sym below.0 ∙ tied_itself nat_cmp_total x in cc
not_below x _ below (used.later among) = not_below x _ below.1 among

pub distinct : (f : Forms) (info : ℕ → Option Info) (xs : List ℕ) → IsStrictlySortedBy nat_cmp xs → AreDistinct f info xs
unfolding IsStrictlySortedBy
distinct f info [] sorted = tt
distinct f info (x ∷ xs) sorted = (not_below x xs sorted.0, distinct f info xs sorted.1)

not_first : (x y : ℕ) (xs : List ℕ) → (y ≡ x → ⊥) → Among x (y ∷ xs) → Among x xs
not_first x _ xs apart used.here = absurd (apart refl)
not_first x y xs apart (used.later among) = among

-- ---- types of what is kept

all_more : (o : Option Ground) (os : List (Option Ground)) (ts : List Ground) → all_of (o ∷ os) ≡ Some ts → (t : Ground) × (rest : List Ground) × (o ≡ Some t) × (all_of os ≡ Some rest) × (ts ≡ t ∷ rest)
all_more None os ts is = absurd (none-some ts is)
all_more (Some t) os ts is = let rest = mapped (λ more. t ∷ more) (all_of os) ts is in (t, rest.0, refl, rest.1, rest.2)

module _ (f : Forms) where
  kept_long : (kept : List Kept) (ts : List Ground) → kept_types f kept ≡ Some ts → length (names_of kept) ≡ length ts
  kept_long [] ts are = ap length (same_some are)
  kept_long (k ∷ kept) ts are =
      let more = all_more (type_at f k.ty) (map (type_at f) (map (λ (k : Kept). k.ty) kept)) ts are in
      ap suc (kept_long kept more.1 more.3) ∙ sym (ap length more.4)

  -- the type of a kept name, which is that of a use
  record IsKept (Used : ℕ → ℕ → Type 0) (x : ℕ) (told : Option Ground) : Type 0 where
    pub ty : ℕ
    pub t : Ground
    pub used_as : Used x ty
    pub type : type_at f ty ≡ Some t
    pub named : told ≡ Some t

  found_kept : (Used : ℕ → ℕ → Type 0) (x : ℕ) (kept : List Kept) (ts : List Ground) → kept_types f kept ≡ Some ts → EachOf (λ (k : Kept). Used k.name k.ty) kept → Among x (names_of kept) → IsKept Used x (type_in x (under_names (names_of kept) ts []))
  found_kept Used x [] ts are all among = elim among [ ]
  found_kept Used x (k ∷ kept) ts are all among =
      let more = all_more (type_at f k.ty) (map (type_at f) (map (λ (k : Kept). k.ty) kept)) ts are in
      subst (λ us. IsKept Used x (type_in x (under_names (k.name ∷ names_of kept) us []))) (sym more.4) (by_test more.0 more.1 more.2 (k.name == x) refl (λ later. found_kept Used x kept more.1 more.3 all.1 later))
    where
      apart : (k.name == x) ≡ false → k.name ≡ x → ⊥
      apart other same = let wrong : true ≡ false = sym (subst (λ n. (k.name == n) ≡ true) same (equal_self k.name)) ∙ other in cc

      by_test : (t : Ground) (rest : List Ground) → type_at f k.ty ≡ Some t → (b : Bool) → (k.name == x) ≡ b → (Among x (names_of kept) → IsKept Used x (type_in x (under_names (names_of kept) rest [])))
          → IsKept Used x (type_in x ((k.name, t) ∷ under_names (names_of kept) rest []))
      by_test t rest type true same later = record {
        ty = k.ty;
        t = t;
        used_as = subst (λ n. Used n k.ty) (eqb-true k.name x same) all.0;
        type = type;
        named = ap (λ b. if b then Some t else type_in x (under_names (names_of kept) rest [])) same;
      }
      by_test t rest type false other later = subst (IsKept Used x) (sym (ap (λ b. if b then Some t else type_in x (under_names (names_of kept) rest [])) other)) (later (not_first x k.name (names_of kept) (apart other) among))

  -- names that are used have values of the types that a context tells of their uses
  pub kept_names_fit : (IsFun : ℕ → Ground → List Ground → Type 0) (info : ℕ → Option Info) (P : ℕ → Type 0) (Used : ℕ → ℕ → Type 0) (c : Context) (cont : Cont) (ts : List Ground) (values : List Value)
      → KeepsJust P cont → EachOf (λ (k : Kept). Used k.name k.ty) cont.keeps → kept_types f cont.keeps ≡ Some ts → FitEach IsFun values ts
      → ((x ty : ℕ) → Used x ty → (t : Ground) × (type_at f ty ≡ Some t) × (type_in x c ≡ Some t))
      → FitNames IsFun P c (bind_each no_names (names_of cont.keeps) values)
  kept_names_fit IsFun info P Used c cont ts values keeps typed are fit told x uses t told_so =
      let found : IsKept Used x (type_in x (under_names (names_of cont.keeps) ts [])) = found_kept Used x cont.keeps ts are typed ((keeps.just x).1 uses) in
      let by_use = told x found.ty found.used_as in
      let same : found.t ≡ t = same_some (sym found.type ∙ by_use.1) ∙ same_some (sym by_use.2 ∙ told_so) in
      let has : Has IsFun (bind_each no_names (names_of cont.keeps) values) x found.t =
      bound_each IsFun f info (names_of cont.keeps) ts values [] no_names (distinct f info (names_of cont.keeps) keeps.ordered) (kept_long cont.keeps ts are) fit (λ y all u none. absurd (none-some u none)) x tt found.t found.named in
      (has.0, has.1, subst (Fits IsFun has.0) same has.2)

  -- and kept names that have values of the types told of them have values of the types that are kept
  pub all_kept : (IsFun : ℕ → Ground → List Ground → Type 0) (Used : ℕ → ℕ → Type 0) (c : Context) (names : Env) (kept : List Kept) (ts : List Ground) → kept_types f kept ≡ Some ts → EachOf (λ (k : Kept). Used k.name k.ty) kept
      → ((x ty : ℕ) → Used x ty → (t : Ground) × (type_at f ty ≡ Some t) × (type_in x c ≡ Some t)) → FitNames IsFun (λ x. Among x (names_of kept)) c names → AreFound IsFun names (names_of kept) ts
  all_kept IsFun Used c names [] ts are all told fit = subst (AreFound IsFun names []) (same_some are) (record { values = []; are = refl; fit = none_left })
  all_kept IsFun Used c names (k ∷ kept) ts are all told fit =
      let more = all_more (type_at f k.ty) (map (type_at f) (map (λ (k : Kept). k.ty) kept)) ts are in
      let by_use = told k.name k.ty all.0 in
      let found : Has IsFun names k.name by_use.0 = fit k.name used.here by_use.0 by_use.2 in
      let one : Has IsFun names k.name more.0 = (found.0, found.1, subst (Fits IsFun found.0) (same_some (sym by_use.1 ∙ more.2)) found.2) in
      subst (AreFound IsFun names (k.name ∷ names_of kept)) (sym more.4)
      (found_more IsFun names k.name more.0 (names_of kept) more.1 one (all_kept IsFun Used c names kept more.1 more.3 all.1 told (λ x among. fit x (used.later among))))
