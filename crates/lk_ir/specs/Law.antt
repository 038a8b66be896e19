-- The laws of continuations; their proofs stand in proofs/.
use Rattle.std.specs.Prelude.{◌≡◌, ◌⊎◌, ℕ, false, List, [], ◌∷◌, ◌++◌, Option, Some, None, length, slice_get}
use Rattle.lk_ast.specs.declared.place.Loc.{Loc}
use Rattle.lk_ast.specs.declared.value.Value.{Value}
use Rattle.lk_evaluation.specs.Evaluation.{eval}
use Rattle.lk_evaluation.specs.Run.{Run}
use Rattle.lk_moves.specs.Frames.{Part, continued}
use Rattle.lk_ir.specs.Continuing.{conts_at, continuing, only}
use Rattle.lk_ir.specs.Environments.{Env, bind_each, lookup, lookup_all, no_names}
use Rattle.lk_ir.specs.LetNormal.{Point, let_normal, plain_in, under}
use Rattle.lk_ir.specs.Tables.{form_at, names_of}
use Rattle.lk_ir.specs.Uses.{AreNamed, Uses, UsedIn, turned}
use Rattle.lk_ir.specs.declared.nodes.Cont.{Cont}
use Rattle.lk_ir.specs.declared.nodes.Conts.{Conts}
use Rattle.lk_ir.specs.declared.nodes.Form.{Form}
use Rattle.lk_ir.specs.declared.nodes.Forms.{Forms}
use Rattle.lk_ir.specs.declared.nodes.Kind.TheVariants as kind

-- A name that a node's only tail binds isn't used by it, unless by a position.
abbrev pub HiddenLaw : Type 0
HiddenLaw = (f : Forms) (n x body : ℕ) (form : Form) → form_at f n ≡ Some form → ((form.kind ≡ kind.Bind x) ⊎ (form.kind ≡ kind.For x)) → form.tails ≡ body ∷ [] → Uses f x n → UsedIn f x form.parts

-- what has no continuation has a value without a step: each other position has one, and so has the body of a `for`
pub record HasConts (f : Forms) (all : List Conts) (n : ℕ) (form : Form) : Type 0 where
  pub position : (k m : ℕ) → slice_get form.parts k ≡ Some m → plain_in f (form_at f m) ≡ false → (c : Cont) × (slice_get (conts_at all n) k ≡ Some (Some c))
  pub turn : (body : ℕ) → turned form.kind form.tails ≡ Some body → plain_in f (form_at f body) ≡ false → (c : Cont) × (slice_get (conts_at all n) (length form.parts) ≡ Some (Some c))

abbrev pub HasContsLaw : Type 0
HasContsLaw = (f : Forms) (all : List Conts) → AreNamed f all → (n : ℕ) (form : Form) → form_at f n ≡ Some form → HasConts f all n form

-- the same node, under names that have the same values where it uses them
abbrev pub Agree : Forms → Point → Point → Type 0
Agree f p q = (p.node ≡ q.node) × ((x : ℕ) → Uses f x p.node → lookup p.names x ≡ lookup q.names x)

-- with these continuations an evaluation comes to the same as with all names
abbrev pub KeepsPoints : Forms → List Conts → Type 0
KeepsPoints f all = (n : ℕ) (names : Env) (place : Loc) (r : Run) → eval (continuing f all) (under names n) place r ≡ eval (let_normal f) (under names n) place r

-- So it is where they keep the names that are used.
abbrev pub ContinuesLaw : Type 0
ContinuesLaw = (f : Forms) (all : List Conts) → AreNamed f all → KeepsPoints f all

-- the continuations of earlier positions have nothing more to take from the names
abbrev pub IsSteady : List (Option Cont) → Env → Type 0
IsSteady [] names = Unit {0}
IsSteady (None ∷ cs) names = IsSteady cs names
IsSteady (Some c ∷ cs) names = (only (names_of c.keeps) names ≡ names) × IsSteady cs names

-- a continuation, or none, for each position
abbrev pub AreMatched : List ℕ → List (Option Cont) → Type 0
AreMatched [] [] = Unit {0}
AreMatched (k ∷ ks) (c ∷ cs) = AreMatched ks cs
AreMatched _ _ = ⊥

-- This continuation is that of the position of a node which has so many others before it, and those before it have nothing more to
-- take from the names.
pub record IsContAt (f : Forms) (all : List Conts) (n before : ℕ) (c : Cont) (names : Env) : Type 0 where
  pub form : Form
  pub there : form_at f n ≡ Some form
  pub earlier : List ℕ
  pub position : ℕ
  pub later : List ℕ
  pub parts : form.parts ≡ earlier ++ position ∷ later
  pub many : before ≡ length earlier
  pub first : List (Option Cont)
  pub rest : List (Option Cont)
  pub conts : conts_at all n ≡ first ++ Some c ∷ rest
  pub matched : AreMatched earlier first
  pub steady : IsSteady first names

-- A frame at a position with a continuation goes on alike from all names and from those alone that the continuation keeps.
abbrev pub ResumesLaw : Type 0
ResumesLaw = (f : Forms) (all : List Conts) (n : ℕ) (c : Cont) (names : Env) (done : List Value) → IsContAt f all n (length done) c names → (place : Loc) (v : Value) (r : Run)
    → continued (continuing f all) (Part (under names n) done place) v r ≡ continued (continuing f all) (Part (under (only (names_of c.keeps) names) n) done place) v r

-- This continuation is that of the body of a node, behind those of all its positions, and these have nothing more to take from the
-- names.
pub record IsTurnAt (f : Forms) (all : List Conts) (n : ℕ) (c : Cont) (names : Env) : Type 0 where
  pub form : Form
  pub there : form_at f n ≡ Some form
  pub first : List (Option Cont)
  pub conts : conts_at all n ≡ first ++ Some c ∷ []
  pub matched : AreMatched form.parts first
  pub steady : IsSteady first names

-- Behind all positions a node does the same from all names and from those alone that the continuation of its body keeps.
abbrev pub TurnsLaw : Type 0
TurnsLaw = (f : Forms) (all : List Conts) (n : ℕ) (c : Cont) (names : Env) (values : List Value) → IsTurnAt f all n c names
    → (continuing f all).act (under names n) values ≡ (continuing f all).act (under (only (names_of c.keeps) names) n) values

-- These names alone are what binding their values to them anew makes.
abbrev pub KeptLaw : Type 0
KeptLaw = (names : Env) (xs : List ℕ) (kept : List Value) → lookup_all names xs ≡ Some kept → only xs names ≡ bind_each no_names xs kept
