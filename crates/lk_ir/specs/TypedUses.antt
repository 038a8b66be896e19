-- Which types the names have that a node uses from outside: with each use the number of its type.
use Rattle.std.specs.Prelude.{◌≡◌, ◌⊎◌, ℕ, List, [], ◌∷◌, Option, Some, None, drop}
use Rattle.lk_types.specs.Each.{Each}
use Rattle.lk_ir.specs.Continuing.{conts_at}
use Rattle.lk_ir.specs.Tables.{body_at, form_at}
use Rattle.lk_ir.specs.Uses.{Among, IsFreeOf, Uses, binds, first_binds}
use Rattle.lk_ir.specs.declared.nodes.Block.{Block}
use Rattle.lk_ir.specs.declared.nodes.Body.{Body}
use Rattle.lk_ir.specs.declared.nodes.Cont.{Cont}
use Rattle.lk_ir.specs.declared.nodes.Conts.{Conts}
use Rattle.lk_ir.specs.declared.nodes.Form.{Form}
use Rattle.lk_ir.specs.declared.nodes.Forms.{Forms}
use Rattle.lk_ir.specs.declared.nodes.Kept.{Kept}
use Rattle.lk_ir.specs.declared.nodes.Kind.{Kind}
use Rattle.lk_ir.specs.declared.nodes.Kind.TheVariants as kind

-- the name is there, with the number of this type
pub data AmongKept (x ty : ℕ) : List Kept → Type 0 where
  here_kept : {kept : List Kept} → AmongKept x ty (record { name = x; ty = ty } ∷ kept)
  later_kept : {k : Kept} {kept : List Kept} → AmongKept x ty kept → AmongKept x ty (k ∷ kept)

mutual
  -- the node uses the name from outside with this type: by itself, in a position, or in a tail that doesn't bind it
  pub data UsesAs (f : Forms) (x ty : ℕ) : ℕ → Type 0 where
    itself_as : {n : ℕ} (form : Form) → form_at f n ≡ Some form → NeedsAs f x ty form.kind form.ty → UsesAs f x ty n
    in_part_as : {n : ℕ} (form : Form) → form_at f n ≡ Some form → UsedAs f x ty form.parts → UsesAs f x ty n
    in_tail_as : {n : ℕ} (form : Form) → form_at f n ≡ Some form → UsedInTailsAs f x ty (binds form.kind) form.tails → UsesAs f x ty n

  -- what a node of this kind and of this type looks up itself; a lambda looks up what its body uses
  pub data NeedsAs (f : Forms) (x ty : ℕ) : Kind → ℕ → Type 0 where
    own_name : NeedsAs f x ty (kind.Name x) ty
    kept_name : {b : Block} {label own : ℕ} {kept : List Kept} → AmongKept x ty kept → NeedsAs f x ty (kind.Reach b label kept) own
    captured_name : {label own : ℕ} {xs : List ℕ} (b : Body) → body_at f label ≡ Some b → b.names ≡ xs → Among x xs → (Among x b.params → ⊥) → UsesAs f x ty b.root → NeedsAs f x ty (kind.Lambda label xs) own

  pub data UsedAs (f : Forms) (x ty : ℕ) : List ℕ → Type 0 where
    first_as : {n : ℕ} {ns : List ℕ} → UsesAs f x ty n → UsedAs f x ty (n ∷ ns)
    others_as : {n : ℕ} {ns : List ℕ} → UsedAs f x ty ns → UsedAs f x ty (n ∷ ns)

  pub data UsedInTailsAs (f : Forms) (x ty : ℕ) : List (Option ℕ) → List ℕ → Type 0 where
    first_tail_as : {bs : List (Option ℕ)} {n : ℕ} {ns : List ℕ} → IsFreeOf (first_binds bs) x → UsesAs f x ty n → UsedInTailsAs f x ty bs (n ∷ ns)
    other_tails_as : {bs : List (Option ℕ)} {n : ℕ} {ns : List ℕ} → UsedInTailsAs f x ty (drop 1 bs) ns → UsedInTailsAs f x ty bs (n ∷ ns)

-- used behind a position: by one of these later ones, or by what the node does then
abbrev pub UsedBehindAs : Forms → Form → List ℕ → ℕ → ℕ → Type 0
UsedBehindAs f form left x ty = UsedAs f x ty left ⊎ NeedsAs f x ty form.kind form.ty ⊎ UsedInTailsAs f x ty (binds form.kind) form.tails

-- Each lambda has a body, which uses all that is captured for it.
pub record UseCaptured (f : Forms) : Type 0 where
  pub bodies : (n label : ℕ) (xs : List ℕ) (form : Form) → form_at f n ≡ Some form → form.kind ≡ kind.Lambda label xs → (b : Body) × (body_at f label ≡ Some b) × (b.names ≡ xs)
  pub used : (label : ℕ) (b : Body) → body_at f label ≡ Some b → (x : ℕ) → Among x b.names → Uses f x b.root × (Among x b.params → ⊥)

-- ---- types of what continuations keep

abbrev pub KeepsTypes : (ℕ → ℕ → Type 0) → Option Cont → Type 0
KeepsTypes UsedAs None = Unit {0}
KeepsTypes UsedAs (Some c) = Each (λ (k : Kept). UsedAs k.name k.ty) c.keeps

-- each kept name has the type of a use behind its position; one continuation more is that of a body
abbrev pub AreTypedAt : Forms → Form → List ℕ → List (Option Cont) → Type 0
AreTypedAt f form [] [] = Unit {0}
AreTypedAt f form [] (c ∷ cs) = KeepsTypes (UsedBehindAs f form []) c × AreTypedAt f form [] cs
AreTypedAt f form (k ∷ ks) [] = Unit {0}
AreTypedAt f form (k ∷ ks) (c ∷ cs) = KeepsTypes (UsedBehindAs f form ks) c × AreTypedAt f form ks cs

-- so at each node of the table
pub record AreNamedAs (f : Forms) (all : List Conts) : Type 0 where
  pub each : (n : ℕ) (form : Form) → form_at f n ≡ Some form → AreTypedAt f form form.parts (conts_at all n)
