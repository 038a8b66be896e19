-- What a node uses is what its form says, and a table's nodes one by one.
use Rattle.std.proofs.Common.{◌≡◌, inl, inr, refl, sym, ap, subst, ◌∙◌, ◌⊎◌, ℕ, zero, suc, ◌+◌, true, false, List, [], ◌∷◌, Option, Some, None, length, slice_get, arith}
use Rattle.std.proofs.lemmas.Option.{none-some}
use Rattle.lk_types.proofs.Parts.{same_some}
use Rattle.lk_ir.specs.Continuing.{conts_at}
use Rattle.lk_ir.specs.Tables.{form_at}
use Rattle.lk_ir.specs.Uses as relation
use Rattle.lk_ir.specs.LetNormal.{plain_in}
use Rattle.lk_ir.specs.Law.{HasConts}
use Rattle.lk_ir.specs.Uses.{AreKept, AreNamed, IsTurnKept, Needs, Uses, UsedBehind, UsedIn, UsedInTails, binds, turned}
use Rattle.lk_ir.specs.declared.nodes.Cont.{Cont}
use Rattle.lk_ir.specs.declared.nodes.Kind.TheVariants as kind
use Rattle.lk_ir.specs.declared.nodes.Conts.{Conts}
use Rattle.lk_ir.specs.declared.nodes.Form.{Form}
use Rattle.lk_ir.specs.declared.nodes.Forms.{Forms}

pub used_by : (f : Forms) (x n : ℕ) (form : Form) → form_at f n ≡ Some form → Uses f x n → UsedBehind f form form.parts x
used_by f x n form is (relation.itself other there needs) = let same : other ≡ form = same_some (sym there ∙ is) in subst (λ (one : Form). UsedBehind f one one.parts x) same (inr (inl needs))
used_by f x n form is (relation.in_part other there uses) = let same : other ≡ form = same_some (sym there ∙ is) in subst (λ (one : Form). UsedBehind f one one.parts x) same (inl uses)
used_by f x n form is (relation.in_tail other there uses) = let same : other ≡ form = same_some (sym there ∙ is) in subst (λ (one : Form). UsedBehind f one one.parts x) same (inr (inr uses))

-- ---- what a tail binds

bound_there : (f : Forms) (x body : ℕ) → UsedInTails f x (Some x ∷ []) (body ∷ []) → ⊥
bound_there f x body (relation.first_tail free uses) = free refl
bound_there f x body (relation.other_tails tail) = elim tail [ ]

pub hidden : (f : Forms) (n x body : ℕ) (form : Form) → form_at f n ≡ Some form → ((form.kind ≡ kind.Bind x) ⊎ (form.kind ≡ kind.For x)) → form.tails ≡ body ∷ [] → Uses f x n → UsedIn f x form.parts
hidden f n x body form there kind_is tails uses = by_form kind_is (used_by f x n form there uses)
  where
    by_form : ((form.kind ≡ kind.Bind x) ⊎ (form.kind ≡ kind.For x)) → UsedBehind f form form.parts x → UsedIn f x form.parts
    by_form is (inl part) = part
    by_form (inl bind) (inr (inl needs)) = absurd (subst (λ k. Needs k x) bind needs)
    by_form (inr turn) (inr (inl needs)) = absurd (subst (λ k. Needs k x) turn needs)
    by_form (inl bind) (inr (inr tail)) = absurd (bound_there f x body (subst (λ ns. UsedInTails f x (Some x ∷ []) ns) tails (subst (λ k. UsedInTails f x (binds k) form.tails) bind tail)))
    by_form (inr turn) (inr (inr tail)) = absurd (bound_there f x body (subst (λ ns. UsedInTails f x (Some x ∷ []) ns) tails (subst (λ k. UsedInTails f x (binds k) form.tails) turn tail)))

-- ---- what isn't plain has a continuation

module _ (f : Forms) (form : Form) where
  position_has : (ks : List ℕ) (cs : List (Option Cont)) → AreKept f form ks cs → (k m : ℕ) → slice_get ks k ≡ Some m → plain_in f (form_at f m) ≡ false → (c : Cont) × (slice_get cs k ≡ Some (Some c))
  position_has [] cs kept k m is other = absurd (none-some m is)
  position_has (j ∷ ks) [] kept k m is other = absurd kept
  position_has (j ∷ ks) (None ∷ cs) kept zero m is other = let same : j ≡ m = same_some is in absurd (let wrong : true ≡ false = sym kept.0 ∙ ap (λ i. plain_in f (form_at f i)) same ∙ other in cc)
  position_has (j ∷ ks) (Some c ∷ cs) kept zero m is other = (c, refl)
  position_has (j ∷ ks) (None ∷ cs) kept (suc k) m is other = position_has ks cs kept.1 k m is other
  position_has (j ∷ ks) (Some c ∷ cs) kept (suc k) m is other = position_has ks cs kept.2 k m is other

  body_has : (body : ℕ) (cs : List (Option Cont)) → IsTurnKept f form (Some body) cs → plain_in f (form_at f body) ≡ false → (c : Cont) × (slice_get cs 0 ≡ Some (Some c))
  body_has body [] kept other = absurd kept
  body_has body (None ∷ []) kept other = absurd (let wrong : true ≡ false = sym kept ∙ other in cc)
  body_has body (Some c ∷ []) kept other = (c, refl)
  body_has body (None ∷ d ∷ cs) kept other = absurd kept
  body_has body (Some c ∷ d ∷ cs) kept other = absurd kept

  turn_has : (ks : List ℕ) (cs : List (Option Cont)) → AreKept f form ks cs → (body : ℕ) → turned form.kind form.tails ≡ Some body → plain_in f (form_at f body) ≡ false → (c : Cont) × (slice_get cs (length ks) ≡ Some (Some c))
  turn_has [] cs kept body is other = body_has body cs (subst (λ o. IsTurnKept f form o cs) is kept) other
  turn_has (k ∷ ks) [] kept body is other = absurd kept
  turn_has (k ∷ ks) (None ∷ cs) kept body is other = turn_has ks cs kept.1 body is other
  turn_has (k ∷ ks) (Some c ∷ cs) kept body is other = turn_has ks cs kept.2 body is other

pub has_conts : (f : Forms) (all : List Conts) → AreNamed f all → (n : ℕ) (form : Form) → form_at f n ≡ Some form → HasConts f all n form
has_conts f all named n form is = record {
  position = position_has f form form.parts (conts_at all n) (named.each n form is);
  turn = turn_has f form form.parts (conts_at all n) (named.each n form is);
}

module _ (f : Forms) (all : List Conts) where
  -- these nodes, the first of which has this number
  abbrev pub AllKept : ℕ → List Form → Type 0
  AllKept k [] = Unit {0}
  AllKept k (form ∷ forms) = AreKept f form form.parts (conts_at all k) × AllKept (1 + k) forms

  each_kept : (k : ℕ) (forms : List Form) → AllKept k forms → (n : ℕ) (form : Form) → slice_get forms n ≡ Some form → AreKept f form form.parts (conts_at all (n + k))
  each_kept k [] kept n form is = absurd (none-some form is)
  each_kept k (one ∷ forms) kept zero form is =
      let same : one ≡ form = same_some is in
      subst (λ (it : Form). AreKept f it it.parts (conts_at all (zero + k))) same (subst (λ m. AreKept f one one.parts (conts_at all m)) (let e : k ≡ zero + k = omega arith in e) kept.0)
  each_kept k (one ∷ forms) kept (suc n) form is = subst (λ m. AreKept f form form.parts (conts_at all m)) (let e : n + (1 + k) ≡ suc n + k = omega arith in e) (each_kept (1 + k) forms kept.1 n form is)

  pub all_named : AllKept 0 f.nodes → AreNamed f all
  all_named kept = record { each = λ n form is. subst (λ m. AreKept f form form.parts (conts_at all m)) (let e : n + 0 ≡ n = omega arith in e) (each_kept 0 f.nodes kept n form is) }
