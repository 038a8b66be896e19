-- What types become where the least stands for all but some variables: something still, and row variables lack what they lacked.
use Rattle.std.proofs.Common.{◌≡◌, ◌⊎◌, inl, inr, ℕ, zero, suc, ◌==◌, Bool, true, false, List, [], ◌∷◌, map, Some, slice_get, refl, ap, ap₂, subst, ◌∙◌, arith}
use Rattle.std.proofs.lemmas.Bool.Decides.{nat_tests}
use Rattle.std.proofs.lemmas.Bool.{eqb-true}
use Rattle.std.proofs.lemmas.Option.{none-some}
use Rattle.std.specs.FinMap as fin
use Rattle.std.specs.Option.{is_some}
use Rattle.lk_ground_types.specs.Law.{EmptiedLaw}
use Rattle.lk_ground_types.specs.Least.{IsAmong, IsLeastBut, AreSameAt, least}
use Rattle.lk_principal.proofs.There.{IsHeld, held}
use Rattle.lk_principal.specs.Law.{LeastLaw}
use Rattle.lk_types.proofs.Parts.{same_some}
use Rattle.lk_types.specs.Each.{Each}
use Rattle.lk_types.specs.Grounding.{Grounding, under}
use Rattle.lk_types.specs.Rows.{Label, has_label, label_order, no_fields}
use Rattle.lk_types.specs.Schemes.{IsInstance, IsLacking}
use Rattle.lk_types.specs.declared.ground.Ground.{Ground}
use Rattle.lk_types.specs.declared.scheme.Lack.{Lack}
use Rattle.lk_types.specs.declared.scheme.Scheme.{Scheme}
use Rattle.lk_types.specs.declared.ty.Ty.{Ty}
use Rattle.lk_types.specs.declared.ty.Variable.{Variable}
use Rattle.lk_types.specs.declared.ty.Variable.TheVariants as variable
use Rattle.lk_typing.specs.Law.{Become}
use Rattle.lk_typing.specs.Programs.{AreAt, AreInstances}
use Rattle.lk_ast.specs.Tables.{tables_of}

-- ---- whether a row variable is among others

other_number : (m n : ℕ) → (m == n) ≡ false → m ≡ n → ⊥
other_number m n differs same = grind (arith, nat_tests)

is_row : (x : Variable) (n : ℕ) → (x ≡ variable.Row n) ⊎ (x ≡ variable.Row n → ⊥)
is_row (variable.Plain m) n = inr (λ is. cc)
is_row (variable.Effects m) n = inr (λ is. cc)
is_row (variable.Row m) n = by_test (m == n) refl
  where
    by_test : (b : Bool) → (m == n) ≡ b → (variable.Row m ≡ variable.Row n) ⊎ (variable.Row m ≡ variable.Row n → ⊥)
    by_test true same = inl (ap variable.Row (eqb-true m n same))
    by_test false differs = inr (λ is. other_number m n differs (let same : m ≡ n = cc in same))

row_among : (xs : List Variable) (n : ℕ) → IsAmong xs (variable.Row n) ⊎ (IsAmong xs (variable.Row n) → ⊥)
row_among [] n = inr (λ among. among)
row_among (x ∷ xs) n = by_both (is_row x n) (row_among xs n)
  where
    neither : (x ≡ variable.Row n → ⊥) → (IsAmong xs (variable.Row n) → ⊥) → IsAmong (x ∷ xs) (variable.Row n) → ⊥
    neither first others (inl is) = first is
    neither first others (inr later) = others later

    by_both : (x ≡ variable.Row n) ⊎ (x ≡ variable.Row n → ⊥) → IsAmong xs (variable.Row n) ⊎ (IsAmong xs (variable.Row n) → ⊥) → IsAmong (x ∷ xs) (variable.Row n) ⊎ (IsAmong (x ∷ xs) (variable.Row n) → ⊥)
    by_both (inl is) others = inl (inl is)
    by_both (inr first) (inl later) = inl (inr later)
    by_both (inr first) (inr others) = inr (neither first others)

empty_lacks : (l : Label) → has_label no_fields l ≡ false
empty_lacks l = ap is_some (fin.get-empty {X = Ground} label_order l)

-- ---- where the least stands for all but some variables

module _ (law : EmptiedLaw) (xs : List Variable) (τ σ : Grounding) (low : IsLeastBut xs τ) (same : AreSameAt xs τ σ) where
  still_lacks : (lack : Lack) → IsLacking σ lack → IsLacking τ lack
  still_lacks lack lacking = by_side (row_among xs lack.var)
    where
      by_side : IsAmong xs (variable.Row lack.var) ⊎ (IsAmong xs (variable.Row lack.var) → ⊥) → IsLacking τ lack
      by_side (inl among) = ap (λ row. has_label row lack.label) (same.rows lack.var among) ∙ lacking
      by_side (inr none) = ap (λ row. has_label row lack.label) (low.rows lack.var none) ∙ empty_lacks lack.label

  pub all_still_lack : (lacks : List Lack) → Each (IsLacking σ) lacks → Each (IsLacking τ) lacks
  all_still_lack [] all = tt
  all_still_lack (lack ∷ lacks) all = (still_lacks lack all.0, all_still_lack lacks all.1)

  pub still_instance : (scheme : Scheme) (t : Ground) → IsInstance σ scheme t → (w : Ground) × IsInstance τ scheme w
  still_instance scheme t its =
      let still = law xs τ σ low same scheme.body t its.body in
      (still.0, record { body = still.1; lacks = all_still_lack scheme.lacks its.lacks })

  pub still_at : (schemes : List Scheme) (ts : List Ground) → AreAt σ schemes ts → (ws : List Ground) × AreAt τ schemes ws
  still_at [] [] are = ([], tt)
  still_at [] (t ∷ ts) are = absurd are
  still_at (scheme ∷ schemes) [] are = absurd are
  still_at (scheme ∷ schemes) (t ∷ ts) are =
      let one = still_instance scheme t are.0 in
      let rest = still_at schemes ts are.1 in
      (one.0 ∷ rest.0, (one.1, rest.1))

  pub still_become : (types : List Ty) (ts : List Ground) → Become σ types ts → (ws : List Ground) × Become τ types ws
  still_become [] ts is = ([], refl)
  still_become (t ∷ types) [] is = absurd cc
  still_become (t ∷ types) (u ∷ ts) is =
      let front : under σ t ≡ Some u = cc in
      let back : map (under σ) types ≡ map (λ t. Some t) ts = cc in
      let one = law xs τ σ low same t u front in
      let rest = still_become types ts back in
      (one.0 ∷ rest.0, ap₂ (λ a as'. a ∷ as') one.1 rest.1)

-- ---- one of several schemes

pub instance_at : (σ : Grounding) (schemes : List Scheme) (ts : List Ground) → AreAt σ schemes ts
    → (i : ℕ) (scheme : Scheme) → slice_get schemes i ≡ Some scheme → (t : Ground) × (slice_get ts i ≡ Some t) × IsInstance σ scheme t
instance_at σ [] ts are i scheme is = absurd (none-some scheme is)
instance_at σ (s ∷ schemes) [] are i scheme is = absurd are
instance_at σ (s ∷ schemes) (t ∷ ts) are zero scheme is = (t, refl, subst (λ s. IsInstance σ s t) (same_some is) are.0)
instance_at σ (s ∷ schemes) (t ∷ ts) are (suc i) scheme is = instance_at σ schemes ts are.1 i scheme is

-- ---- the least for all variables

least_least : IsLeastBut [] least
least_least = record { plain = λ n none. refl; rows = λ n none. refl; effects = λ n none. refl }

same_at_none : (σ : Grounding) → AreSameAt [] least σ
same_at_none σ = record { plain = λ n among. absurd among; rows = λ n among. absurd among; effects = λ n among. absurd among }

pub least_law : EmptiedLaw → LeastLaw
least_law law p schemes types has i scheme is =
    let one : IsHeld (tables_of p) scheme = held (tables_of p) false [] p.decls schemes types has i scheme is in
    let some : (ts : List Ground) × AreInstances one.own ts = one.hold.some in
    let its : (t : Ground) × (slice_get some.0 one.place ≡ Some t) × IsInstance some.1.0 scheme t = instance_at some.1.0 one.own some.0 some.1.1 one.place scheme one.has in
    still_instance law [] least some.1.0 least_least (same_at_none some.1.0) scheme its.0 its.2
