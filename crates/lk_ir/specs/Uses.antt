-- Which names a node uses from outside, those that are live behind a position (A. V. Aho, M. S. Lam, R. Sethi and J. D. Ullman,
-- Compilers, 2006, section 9.2.5), and continuations that keep just these.
use Rattle.std.specs.Prelude.{◌≡◌, ◌⊎◌, ◌↔◌, ℕ, true, false, List, [], ◌∷◌, ◌++◌, Option, Some, None, map, drop}
use Rattle.std.specs.List.Sorted.{IsStrictlySortedBy}
use Rattle.std.specs.Ordering.{nat_cmp}
use Rattle.lk_ir.specs.Continuing.{conts_at}
use Rattle.lk_ir.specs.LetNormal.{plain_in}
use Rattle.lk_ir.specs.Tables.{form_at, names_of}
use Rattle.lk_ir.specs.declared.nodes.CaseForm.{CaseForm}
use Rattle.lk_ir.specs.declared.nodes.Cont.{Cont}
use Rattle.lk_ir.specs.declared.nodes.Conts.{Conts}
use Rattle.lk_ir.specs.declared.nodes.Form.{Form}
use Rattle.lk_ir.specs.declared.nodes.Forms.{Forms}
use Rattle.lk_ir.specs.declared.nodes.Kind.{Kind}
use Rattle.lk_ir.specs.declared.nodes.Kind.TheVariants as kind

-- ---- what a node uses

pub data Among (x : ℕ) : List ℕ → Type 0 where
  here : {xs : List ℕ} → Among x (x ∷ xs)
  later : {y : ℕ} {xs : List ℕ} → Among x xs → Among x (y ∷ xs)

abbrev pub last_binds : Option ℕ → List (Option ℕ)
last_binds None = []
last_binds (Some x) = Some x ∷ []

-- the name that each tail binds, if it binds one
abbrev pub binds : Kind → List (Option ℕ)
binds (kind.Bind x) = Some x ∷ []
binds (kind.For x) = Some x ∷ []
binds (kind.Switch cases last) = map (λ (c : CaseForm). c.name) cases ++ last_binds last
binds other = []

abbrev pub first_binds : List (Option ℕ) → Option ℕ
first_binds [] = None
first_binds (b ∷ bs) = b

abbrev pub IsFreeOf : Option ℕ → ℕ → Type 0
IsFreeOf None x = Unit {0}
IsFreeOf (Some y) x = y ≡ x → ⊥

-- what the node itself looks up once its positions have their values
abbrev pub Needs : Kind → ℕ → Type 0
Needs (kind.Name y) x = y ≡ x
Needs (kind.Lambda label xs) x = Among x xs
Needs (kind.Reach b label kept) x = Among x (names_of kept)
Needs other x = ⊥

mutual
  -- the node uses the name from outside: by itself, in a position, or in a tail that doesn't bind it
  pub data Uses (f : Forms) (x : ℕ) : ℕ → Type 0 where
    itself : {n : ℕ} (form : Form) → form_at f n ≡ Some form → Needs form.kind x → Uses f x n
    in_part : {n : ℕ} (form : Form) → form_at f n ≡ Some form → UsedIn f x form.parts → Uses f x n
    in_tail : {n : ℕ} (form : Form) → form_at f n ≡ Some form → UsedInTails f x (binds form.kind) form.tails → Uses f x n

  pub data UsedIn (f : Forms) (x : ℕ) : List ℕ → Type 0 where
    first : {n : ℕ} {ns : List ℕ} → Uses f x n → UsedIn f x (n ∷ ns)
    others : {n : ℕ} {ns : List ℕ} → UsedIn f x ns → UsedIn f x (n ∷ ns)

  pub data UsedInTails (f : Forms) (x : ℕ) : List (Option ℕ) → List ℕ → Type 0 where
    first_tail : {bs : List (Option ℕ)} {n : ℕ} {ns : List ℕ} → IsFreeOf (first_binds bs) x → Uses f x n → UsedInTails f x bs (n ∷ ns)
    other_tails : {bs : List (Option ℕ)} {n : ℕ} {ns : List ℕ} → UsedInTails f x (drop 1 bs) ns → UsedInTails f x bs (n ∷ ns)

-- used behind a position: by one of these later ones, or by what the node does then
abbrev pub UsedBehind : Forms → Form → List ℕ → ℕ → Type 0
UsedBehind f form left x = UsedIn f x left ⊎ Needs form.kind x ⊎ UsedInTails f x (binds form.kind) form.tails

-- ---- what continuations keep

-- just the names that are used, in byte order, each once
pub record KeepsJust (Used : ℕ → Type 0) (c : Cont) : Type 0 where
  pub ordered : IsStrictlySortedBy nat_cmp (names_of c.keeps)
  pub just : (x : ℕ) → (Among x (names_of c.keeps) ↔ Used x)

-- the body of a `for`
abbrev pub turned : Kind → List ℕ → Option ℕ
turned (kind.For x) (body ∷ []) = Some body
turned other tails = None

-- Behind all positions only a `for` has a continuation, where its body isn't plain: it keeps what the body uses.
abbrev pub IsTurnKept : Forms → Form → Option ℕ → List (Option Cont) → Type 0
IsTurnKept f form None [] = Unit {0}
IsTurnKept f form (Some body) (None ∷ []) = plain_in f (form_at f body) ≡ true
IsTurnKept f form (Some body) (Some c ∷ []) = (plain_in f (form_at f body) ≡ false) × KeepsJust (UsedBehind f form []) c
IsTurnKept f form body cs = ⊥

-- each of these positions has a continuation that keeps what is used behind it, but for the plain ones, which have none
abbrev pub AreKept : Forms → Form → List ℕ → List (Option Cont) → Type 0
AreKept f form [] cs = IsTurnKept f form (turned form.kind form.tails) cs
AreKept f form (k ∷ ks) [] = ⊥
AreKept f form (k ∷ ks) (None ∷ cs) = (plain_in f (form_at f k) ≡ true) × AreKept f form ks cs
AreKept f form (k ∷ ks) (Some c ∷ cs) = (plain_in f (form_at f k) ≡ false) × KeepsJust (UsedBehind f form ks) c × AreKept f form ks cs

-- so of each node of the table
pub record AreNamed (f : Forms) (all : List Conts) : Type 0 where
  pub each : (n : ℕ) (form : Form) → form_at f n ≡ Some form → AreKept f form form.parts (conts_at all n)
