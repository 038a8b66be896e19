-- What a visit takes for nodes in text order: the type of each, and for each use the place of what it calls.
use Rattle.std.proofs.Common.{◌≡◌, ℕ, Bool, false, List, [], ◌∷◌, ◌++◌, drop, Some, None, slice_get, if◌then◌else◌, refl, sym, ◌∙◌, subst}
use Rattle.lk_ast.specs.declared.declaration.TableDecl.{TableDecl}
use Rattle.lk_ast.specs.declared.expression.Expr.{Expr}
use Rattle.lk_mono.specs.Grounded.{AreCalled}
use Rattle.lk_mono.specs.Held.{types_in}
use Rattle.lk_sites.specs.Pending.{Pending, pending}
use Rattle.lk_sites.specs.Takes as takes
use Rattle.lk_sites.specs.Takes.{Takes}
use Rattle.lk_sound.proofs.InsideNodes.{IsInside}
use Rattle.lk_sound.specs.Nodes.{TypedNode, Use, nodes_of, each_nodes}
use Rattle.lk_types.specs.Each.{Each}
use Rattle.lk_types.specs.Rows.{EffectSet}
use Rattle.lk_types.specs.declared.ground.Ground.{Ground}
use Rattle.lk_typing.specs.Names.{Named, Entry}
use Rattle.lk_typing.specs.Typing.{HaveTypes, query, update, none, more}

-- a helper inside a query, an update or a deletion, and else one of the others
pub data Passes (mains helpers : List Use) : List TypedNode → Pending → Pending → Type 0 where
  done : {p : Pending} → Passes mains helpers [] p p
  other : {node : TypedNode} {nodes : List TypedNode} {types : List Ground} {calls : List ℕ} {q : Pending} → node.part.use_of ≡ None
      → Passes mains helpers nodes (pending types calls) q → Passes mains helpers (node ∷ nodes) (pending (node.part.type ∷ types) calls) q
  called : {node : TypedNode} {nodes : List TypedNode} {types : List Ground} {calls : List ℕ} {q : Pending} {u : Use} {h : ℕ} → node.part.use_of ≡ Some u → slice_get (if node.part.inside then helpers else mains) h ≡ Some u
      → Passes mains helpers nodes (pending types calls) q → Passes mains helpers (node ∷ nodes) (pending (node.part.type ∷ types) (h ∷ calls)) q

module _ (mains helpers : List Use) where
  -- a body takes its types and calls
  pub passes_all : (nodes : List TypedNode) (places : List ℕ) → AreCalled mains helpers false nodes places → Passes mains helpers nodes (pending (types_in nodes) places) (pending [] [])
  passes_all _ _ AreCalled.none = done
  passes_all _ _ (AreCalled.other {node} {nodes} {places} no_use others) = other no_use (passes_all nodes places others)
  passes_all _ _ (AreCalled.called {node} {nodes} {place} {places} {u} uses at others) = called uses at (passes_all nodes places others)

  -- first for these, then for those
  pub passes_split : (xs ys : List TypedNode) (p r : Pending) → Passes mains helpers (xs ++ ys) p r → (q : Pending) × Passes mains helpers xs p q × Passes mains helpers ys q r
  passes_split [] ys p r passes = (p, done, passes)
  passes_split (x ∷ xs) ys _ r (other {types = types} {calls = calls} is passes) = let rest = passes_split xs ys (pending types calls) r passes in (rest.0, other is rest.1, rest.2)
  passes_split (x ∷ xs) ys _ r (called {types = types} {calls = calls} is at passes) = let rest = passes_split xs ys (pending types calls) r passes in (rest.0, called is at rest.1, rest.2)

  -- inside of queries, updates and deletions only helpers are called
  pub passes_inside : (nodes : List TypedNode) (p q : Pending) → Each IsInside nodes → Passes mains helpers nodes p q → Takes helpers nodes p q
  passes_inside [] _ q inside done = takes.none
  passes_inside (node ∷ nodes) _ q inside (other {types = types} {calls = calls} is passes) = takes.other is (passes_inside nodes (pending types calls) q inside.1 passes)
  passes_inside (node ∷ nodes) _ q inside (called {types = types} {calls = calls} {u = u} {h = h} is at passes) =
      takes.called is (subst (λ b. slice_get (if b then helpers else mains) h ≡ Some u) inside.0 at) (passes_inside nodes (pending types calls) q inside.1 passes)

  -- behind a node that calls nothing
  pub passes_block : (node : TypedNode) (nodes : List TypedNode) (p q : Pending) → node.part.use_of ≡ None → Each IsInside nodes → Passes mains helpers (node ∷ nodes) p q → Takes helpers (node ∷ nodes) p q
  passes_block node nodes _ q no_use inside (other {types = types} {calls = calls} is passes) = takes.other is (passes_inside nodes (pending types calls) q inside passes)
  passes_block node nodes _ q no_use inside (called {u = u} is at passes) = let wrong : None ≡ Some u = sym no_use ∙ is in absurd cc

  -- what is taken for the first node
  pub data PassesFirst (node : TypedNode) (nodes : List TypedNode) (p q : Pending) : Type 0 where
    first_other : node.part.use_of ≡ None → Passes mains helpers nodes (pending (drop 1 p.types) p.calls) q → PassesFirst node nodes p q
    first_called : (u : Use) → node.part.use_of ≡ Some u → Passes mains helpers nodes (pending (drop 1 p.types) (drop 1 p.calls)) q → PassesFirst node nodes p q

  pub passes_first : (node : TypedNode) (nodes : List TypedNode) (p q : Pending) → Passes mains helpers (node ∷ nodes) p q → PassesFirst node nodes p q
  passes_first node nodes _ q (other is rest) = first_other is rest
  passes_first node nodes _ q (called {u = u} is at rest) = first_called u is rest

  pub passes_behind : (node : TypedNode) (nodes : List TypedNode) (p q : Pending) → node.part.use_of ≡ None → Passes mains helpers (node ∷ nodes) p q → Passes mains helpers nodes (pending (drop 1 p.types) p.calls) q
  passes_behind node nodes _ q no_use (other is rest) = rest
  passes_behind node nodes _ q no_use (called {u = u} is at rest) = let wrong : None ≡ Some u = sym no_use ∙ is in absurd cc

module _ {functions : Named (Entry Ground)} {tables : List TableDecl} where
  -- nothing stands in a table
  pub no_nodes : {names : Named Ground} {effects : EffectSet} {es : List Expr} {ts inside : List Ground} (flag : Bool) (d : HaveTypes functions tables names effects es ts inside) → es ≡ [] → each_nodes flag d ≡ []
  unfolding nodes_of
  no_nodes flag none is = refl
  no_nodes flag (more {e = e} {es = es} inside rest first others) is = let wrong : e ∷ es ≡ [] = is in absurd cc
