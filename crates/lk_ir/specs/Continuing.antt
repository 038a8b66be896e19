-- What a table of nodes means with continuations: behind a position only those names are in scope that its continuation keeps, as in
-- code whose frames hold them (J. C. Reynolds, Definitional Interpreters for Higher-Order Programming Languages, 1972, section 6;
-- A. W. Appel, Compiling with Continuations, 1992, chapter 10).
use Rattle.std.specs.Prelude.{ℕ, Bool, List, [], ◌∷◌, Option, Some, None, slice_get, ◌==◌}
use Rattle.std.specs.List.{list_any}
use Rattle.std.specs.FinMap as finite
use Rattle.lk_ast.specs.declared.value.Value.{Value}
use Rattle.lk_evaluation.specs.Evaluation.{Act, Lacks, Language}
use Rattle.lk_ir.specs.Environments.{Env}
use Rattle.lk_ir.specs.LetNormal.{Point, act, nowhere, plain_in, under}
use Rattle.lk_ir.specs.Tables.{form_at, names_of}
use Rattle.lk_ir.specs.declared.nodes.Cont.{Cont}
use Rattle.lk_ir.specs.declared.nodes.Conts.{Conts}
use Rattle.lk_ir.specs.declared.nodes.Form.{Form}
use Rattle.lk_ir.specs.declared.nodes.Forms.{Forms}

-- ---- what is kept

abbrev pub is_among : List ℕ → ℕ → Bool
is_among xs x = list_any (λ y. y == x) xs

-- these names alone
abbrev pub only : List ℕ → Env → Env
only xs names = finite.retain_keys names (is_among xs)

abbrev pub narrowed : Option Cont → Env → Env
narrowed None names = names
narrowed (Some c) names = only (names_of c.keeps) names

-- the points of positions one after another, each behind the continuation of the one before it
abbrev pub going : List ℕ → List (Option Cont) → Env → List Point
going [] cs names = []
going (k ∷ ks) [] names = under names k ∷ going ks [] names
going (k ∷ ks) (c ∷ cs) names = under names k ∷ going ks cs (narrowed c names)

-- The names that are left behind all positions. A `for` has one more continuation, that of its body: all turns see what it keeps.
abbrev pub behind : List ℕ → List (Option Cont) → Env → Env
behind [] [] names = names
behind [] (c ∷ cs) names = narrowed c names
behind (k ∷ ks) [] names = names
behind (k ∷ ks) (c ∷ cs) names = behind ks cs (narrowed c names)

abbrev pub conts_of : Option Conts → List (Option Cont)
conts_of None = []
conts_of (Some c) = c.of

-- the continuations of the node with this number
abbrev pub conts_at : List Conts → ℕ → List (Option Cont)
conts_at all n = conts_of (slice_get all n)

-- ---- nodes

module _ (f : Forms) (all : List Conts) where
  abbrev pub parts_in : Option Form → ℕ → Env → List Point
  parts_in None n names = []
  parts_in (Some form) n names = going form.parts (conts_at all n) names

  abbrev pub act_in : Option Form → ℕ → Env → List Value → Act Point
  act_in None n names values = Lacks (nowhere f)
  act_in (Some form) n names values = act f form.at form.kind form.tails (behind form.parts (conts_at all n) names) values

  abbrev pub continuing : Language
  continuing = record {
    Point = Point;
    parts = λ p. parts_in (form_at f p.node) p.node p.names;
    plain = λ p. plain_in f (form_at f p.node);
    act = λ p values. act_in (form_at f p.node) p.node p.names values;
  }
