-- Where a continuation stands in its node: at a position, or behind all of them at the body of a `for`; and the types there.
use Rattle.std.proofs.Common.{◌≡◌, refl, ap, subst, ◌∙◌, inl, inr, ◌⊎◌, ℕ, zero, suc, List, [], ◌∷◌, ◌++◌, Option, Some, None, length, slice_get}
use Rattle.std.proofs.lemmas.Option.{none-some}
use Rattle.std.specs.Option.{option_and_then, option_flatten, option_map}
use Rattle.lk_ir.specs.TypedUses.{AreTypedAt, KeepsTypes, UsedBehindAs}
use Rattle.lk_ir.specs.Uses.{AreKept, IsTurnKept, KeepsJust, UsedBehind, turned}
use Rattle.lk_ir.specs.declared.nodes.Cont.{Cont}
use Rattle.lk_ir.specs.declared.nodes.Form.{Form}
use Rattle.lk_ir.specs.declared.nodes.Forms.{Forms}
use Rattle.lk_ir.specs.declared.nodes.Kind.{Kind}
use Rattle.lk_ir.specs.declared.nodes.Kind.TheVariants as kind
use Rattle.lk_types.proofs.Parts.{same_some}
use Rattle.lk_types.specs.declared.ground.Ground.{Ground}
use Rattle.lk_code.specs.Parts as typed
use Rattle.lk_code.specs.Parts.{AreTyped, Context, Info, IsTyped}
use Rattle.lk_code.specs.Tables.{node_type, type_at}
use Rattle.lk_code.specs.Told.{node_types}

module _ (f : Forms) (form : Form) (cont : Cont) where
  pub record AtPart (ks : List ℕ) (n : ℕ) : Type 0 where
    pub earlier : List ℕ
    pub position : ℕ
    pub later : List ℕ
    pub is : ks ≡ earlier ++ position ∷ later
    pub many : n ≡ length earlier
    pub keeps : KeepsJust (UsedBehind f form later) cont
    pub types : KeepsTypes (UsedBehindAs f form later) (Some cont)

  pub record AtTurn (ks : List ℕ) (n : ℕ) : Type 0 where
    pub body : ℕ
    pub turn : turned form.kind form.tails ≡ Some body
    pub many : n ≡ length ks
    pub keeps : KeepsJust (UsedBehind f form []) cont
    pub types : KeepsTypes (UsedBehindAs f form []) (Some cont)

  further : (k : ℕ) (ks : List ℕ) (n : ℕ) → AtPart ks n ⊎ AtTurn ks n → AtPart (k ∷ ks) (suc n) ⊎ AtTurn (k ∷ ks) (suc n)
  further k ks n (inl one) = inl (record { earlier = k ∷ one.earlier; position = one.position; later = one.later; is = ap (λ js. k ∷ js) one.is; many = ap suc one.many; keeps = one.keeps; types = one.types })
  further k ks n (inr one) = inr (record { body = one.body; turn = one.turn; many = ap suc one.many; keeps = one.keeps; types = one.types })

  turn_place : (o : Option ℕ) → turned form.kind form.tails ≡ o → (cs : List (Option Cont)) → IsTurnKept f form o cs → AreTypedAt f form [] cs → (n : ℕ) → option_flatten (slice_get cs n) ≡ Some cont → AtTurn [] n
  turn_place None turn [] kept types n is = absurd (none-some cont is)
  turn_place None turn (d ∷ cs) kept types n is = absurd kept
  turn_place (Some body) turn [] kept types n is = absurd kept
  turn_place (Some body) turn (None ∷ []) kept types zero is = absurd (none-some cont is)
  turn_place (Some body) turn (None ∷ []) kept types (suc n) is = absurd (none-some cont is)
  turn_place (Some body) turn (None ∷ d ∷ cs) kept types n is = absurd kept
  turn_place (Some body) turn (Some d ∷ []) kept types zero is =
      let same : d ≡ cont = same_some is in
      record { body = body; turn = turn; many = refl; keeps = subst (KeepsJust (UsedBehind f form [])) same kept.1; types = subst (λ c. KeepsTypes (UsedBehindAs f form []) (Some c)) same types.0 }
  turn_place (Some body) turn (Some d ∷ []) kept types (suc n) is = absurd (none-some cont is)
  turn_place (Some body) turn (Some d ∷ e ∷ cs) kept types n is = absurd kept

  pub place : (ks : List ℕ) (cs : List (Option Cont)) → AreKept f form ks cs → AreTypedAt f form ks cs → (n : ℕ) → option_flatten (slice_get cs n) ≡ Some cont → AtPart ks n ⊎ AtTurn ks n
  place [] cs kept types n is = inr (turn_place (turned form.kind form.tails) refl cs kept types n is)
  place (k ∷ ks) [] kept types n is = absurd kept
  place (k ∷ ks) (None ∷ cs) kept types zero is = absurd (none-some cont is)
  place (k ∷ ks) (None ∷ cs) kept types (suc n) is = further k ks n (place ks cs kept.1 types.1 n is)
  place (k ∷ ks) (Some d ∷ cs) kept types zero is =
      let same : d ≡ cont = same_some is in
      inl (record { earlier = []; position = k; later = ks; is = refl; many = refl; keeps = subst (KeepsJust (UsedBehind f form ks)) same kept.1; types = subst (λ c. KeepsTypes (UsedBehindAs f form ks) (Some c)) same types.0 })
  place (k ∷ ks) (Some d ∷ cs) kept types (suc n) is = further k ks n (place ks cs kept.2 types.1 n is)

pub turned_is : (k : Kind) (tails : List ℕ) (body : ℕ) → turned k tails ≡ Some body → (x : ℕ) × (k ≡ kind.For x) × (tails ≡ body ∷ [])
turned_is (kind.For x) (n ∷ []) body is = (x, refl, ap (λ m. m ∷ []) (same_some is))
turned_is other tails body is = absurd (none-some body is)

-- ---- types

module _ (f : Forms) (info : ℕ → Option Info) (c : Context) where
  pub record AreSplit (earlier : List ℕ) (k : ℕ) (later : List ℕ) (ts : List Ground) : Type 0 where
    pub before : List Ground
    pub here : Ground
    pub after : List Ground
    pub is : ts ≡ before ++ here ∷ after
    pub first : AreTyped f info c earlier before
    pub one : IsTyped f info c k here
    pub rest : AreTyped f info c later after

  pub split : (earlier : List ℕ) (k : ℕ) (later : List ℕ) (ts : List Ground) → AreTyped f info c (earlier ++ k ∷ later) ts → AreSplit earlier k later ts
  split [] k later _ (typed.more {t = t} {ts = ts} one rest) = record { before = []; here = t; after = ts; is = refl; first = typed.none; one = one; rest = rest }
  split (j ∷ earlier) k later _ (typed.more {t = t} {ts = ts} one rest) =
      let inner : AreSplit earlier k later ts = split earlier k later ts rest in
      record { before = t ∷ inner.before; here = inner.here; after = inner.after; is = ap (λ us. t ∷ us) inner.is; first = typed.more one inner.first; one = inner.one; rest = inner.rest }

  pub node_type_is : (n : ℕ) (t : Ground) → IsTyped f info c n t → node_type f n ≡ Some t
  node_type_is n t (typed.node form ts asked is has rule parts tails) = ap (λ o. option_and_then (λ (form : Form). type_at f form.ty) o) is ∙ has

  pub node_types_are : (ns : List ℕ) (ts : List Ground) → AreTyped f info c ns ts → node_types f ns ≡ Some ts
  node_types_are [] [] typed.none = refl
  node_types_are [] (t ∷ ts) have = elim have [ ]
  node_types_are (n ∷ ns) [] have = elim have [ ]
  node_types_are (n ∷ ns) (t ∷ ts) (typed.more one rest) =
      ap (λ o. option_and_then (λ x. option_map (λ xs. x ∷ xs) (node_types f ns)) o) (node_type_is n t one) ∙ ap (λ o. option_map (λ xs. t ∷ xs) o) (node_types_are ns ts rest)

  pub types_long : (ns : List ℕ) (ts : List Ground) → AreTyped f info c ns ts → length ns ≡ length ts
  types_long [] [] typed.none = refl
  types_long [] (t ∷ ts) have = elim have [ ]
  types_long (n ∷ ns) [] have = elim have [ ]
  types_long (n ∷ ns) (t ∷ ts) (typed.more one rest) = ap suc (types_long ns ts rest)

  pub one_behind : (ns : List ℕ) (k : ℕ) (ts : List Ground) (t : Ground) → AreTyped f info c ns ts → IsTyped f info c k t → AreTyped f info c (ns ++ k ∷ []) (ts ++ t ∷ [])
  one_behind [] k [] t typed.none last = typed.more last typed.none
  one_behind [] k (u ∷ ts) t have last = elim have [ ]
  one_behind (n ∷ ns) k [] t have last = elim have [ ]
  one_behind (n ∷ ns) k (u ∷ ts) t (typed.more one rest) last = typed.more one (one_behind ns k ts t rest last)
