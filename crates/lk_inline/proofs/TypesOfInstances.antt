-- In a ground program all nodes have types of rows: `main` has its least type, and what a body becomes at such a type has such types.
use Rattle.std.proofs.Common.{◌≡◌, ℕ, zero, suc, refl, sym, ◌∙◌, subst, Bool, true, false, List, [], ◌∷◌, ◌++◌, None, Option, Some, length, slice_get}
use Rattle.lk_ast.specs.declared.declaration.Program.{Program}
use Rattle.lk_ground.specs.declared.program.GroundFun.{GroundFun}
use Rattle.lk_ground_types.specs.Least.{least}
use Rattle.lk_inline.proofs.TypesOfRows.{OfRows, all_of_rows, becomes_of_rows, least_of_rows, proper_type}
use Rattle.lk_inline.proofs.TypesOfUses.{HasRows, UsesRows, uses_rows}
use Rattle.lk_inline.specs.Law.{AreProper, IsProperType, TypesLaw}
use Rattle.lk_mono.proofs.NodeTypes.{types_of}
use Rattle.lk_mono.specs.Grounded.{Are}
use Rattle.lk_mono.specs.Held.{types_in}
use Rattle.lk_mono.specs.Instances.{AreGathered, AreHelpers, AreMains, Body, IsBody, IsMain, IsWalked, IsWith, Turn, Wanted, everywhere, lacking, next, nothing, outside, own_turn, start, there, turn_of, uses_among, uses_of, with_use, within_blocks}
use Rattle.lk_sound.specs.Nodes.{TypedNode, Use, nodes_of}
use Rattle.lk_types.proofs.Members.{each_both}
use Rattle.lk_types.specs.Each.{Each}
use Rattle.lk_types.specs.Grounding.{Grounding, under}
use Rattle.lk_types.specs.declared.ground.Ground.{Ground}
use Rattle.lk_types.specs.declared.scheme.Scheme.{Scheme}
use Rattle.lk_types.specs.declared.ty.Ty.{Ty}
use Rattle.lk_typing.specs.Law.{Become}

abbrev HasUse : Use → Type 0
HasUse u = OfRows u.type

-- ---- lists of uses

used_among : (wanted : Wanted) (nodes : List TypedNode) → Each UsesRows nodes → Each HasUse (uses_among wanted nodes)
used_among wanted [] all = tt
used_among wanted (node ∷ nodes) all = by_use (wanted node.part.inside) node.part.use_of all.0 (used_among wanted nodes all.1)
  where
    by_use : (b : Bool) (o : Option Use) → ((u : Use) → o ≡ Some u → OfRows u.type) → Each HasUse (uses_among wanted nodes) → Each HasUse (with_use b o (uses_among wanted nodes))
    by_use true (Some u) one others = (one u refl, others)
    by_use true None one others = others
    by_use false (Some u) one others = others
    by_use false None one others = others

with_all : (others : ℕ) (list us longer : List Use) → IsWith others list us longer → Each HasUse list → Each HasUse us → Each HasUse longer
with_all others list _ longer nothing all more = all
with_all others list _ longer (there {u = u} {us = us} listed rest) all more = with_all others list us longer rest all more.1
with_all others list _ longer (lacking {u = u} {us = us} not_listed few rest) all more = with_all others (list ++ u ∷ []) us longer rest (each_both HasUse list (u ∷ []) all (more.0, tt)) more.1

use_at : (list : List Use) (n : ℕ) (u : Use) → slice_get list n ≡ Some u → Each HasUse list → OfRows u.type
use_at [] n u is all = let wrong : None ≡ Some u = is in absurd cc
use_at (v ∷ list) zero u is all = let same : v ≡ u = cc in subst HasUse same all.0
use_at (v ∷ list) (suc n) u is all = use_at list n u is all.1

-- ---- bodies

become_each : (σ : Grounding) (types : List Ty) (ts : List Ground) → Become σ types ts → ((t : Ty) (g : Ground) → under σ t ≡ Some g → OfRows g) → Each OfRows ts
become_each σ types [] are each = tt
become_each σ [] (t ∷ ts) are each = absurd cc
become_each σ (ty ∷ types) (t ∷ ts) are each =
    let one : under σ ty ≡ Some t = cc in
    let others : Become σ types ts = cc in
    (each ty t one, become_each σ types ts others each)

nodes_each : (nodes : List TypedNode) → Each OfRows (types_in nodes) → Each HasRows nodes
nodes_each [] all = tt
nodes_each (node ∷ nodes) all = (all.0, nodes_each nodes all.1)

module _ (p : Program) (schemes : List Scheme) (types : List Ty) where
  -- the nodes of an instance of such a type
  body_rows : (u : Use) (nodes : List TypedNode) → IsBody p schemes types u nodes → OfRows u.type → Each HasRows nodes × Each UsesRows nodes
  body_rows u nodes body own =
      let typed = body.typed in
      let function = typed.is.typed in
      let each : Each OfRows typed.nodes = become_each typed.σ body.own typed.nodes typed.become (becomes_of_rows typed.σ (all_of_rows typed.σ body.scheme.body u.type typed.instance.body own typed.least)) in
      let all : Each HasRows (nodes_of false function.body) = nodes_each (nodes_of false function.body) (subst (Each OfRows) (function.all ∙ sym (types_of false function.body)) each) in
      (subst (Each HasRows) (sym body.are) all, subst (Each UsesRows) (sym body.are) (uses_rows false function.body all))

  -- what is walked where each instance whose turn it is has such a type
  walked_rows : (turn : Turn) (wanted : Wanted) → ((list : List Use) (n : ℕ) (u : Use) → turn list n ≡ Some u → Each HasUse list → OfRows u.type)
      → (others : ℕ) (first : List Use) (n : ℕ) (list : List Use) → IsWalked p schemes types turn wanted others first n list → Each HasUse first → Each HasUse list
  walked_rows turn wanted in_turn others first _ _ start all = all
  walked_rows turn wanted in_turn others first _ longer (next {n = n} {list = list} {u = u} {nodes = nodes} before turned body small added) all =
      let listed : Each HasUse list = walked_rows turn wanted in_turn others first n list before all in
      with_all others list (uses_among wanted nodes) longer added listed (used_among wanted nodes (body_rows u nodes body (in_turn list n u turned listed)).1)

  main_rows : (u : Use) → IsMain p schemes u → OfRows u.type
  main_rows u main = becomes_of_rows least least_of_rows main.scheme.body u.type main.instance.body

  mains_rows : (mains : List Use) → AreMains p schemes types mains → Each HasUse mains
  mains_rows mains (u, main, done) = walked_rows own_turn outside use_at 0 (u ∷ []) done.number mains done.walked (main_rows u main, tt)

  -- what they use inside of queries, updates and deletions, and what helpers use
  gathered_rows : (mains gathered : List Use) → AreGathered p schemes types mains gathered → Each HasUse mains → Each HasUse gathered
  gathered_rows mains gathered done all = walked_rows (turn_of mains) within_blocks (λ list n u turned listed. use_at mains n u turned all) (length mains) [] done.number gathered done.walked tt

  helpers_rows : (mains gathered helpers : List Use) → AreHelpers p schemes types mains gathered helpers → Each HasUse gathered → Each HasUse helpers
  helpers_rows mains gathered helpers done all = walked_rows own_turn everywhere use_at (length mains) gathered done.number helpers done.walked all

  -- ---- functions

  types_proper : (nodes : List TypedNode) → Each HasRows nodes → Each IsProperType (types_in nodes)
  types_proper [] all = tt
  types_proper (node ∷ nodes) all = (proper_type node.part.type all.0, types_proper nodes all.1)

  functions_proper : (mains helpers : List Use) (in_helper : Bool) (fs : List GroundFun) (bodies : List Body) → Are p mains helpers in_helper fs bodies → Each (λ (body : Body). IsBody p schemes types body.use_of body.nodes) bodies → Each HasUse (uses_of bodies)
      → AreProper fs
  functions_proper mains helpers in_helper _ _ Are.none bodies uses = tt
  functions_proper mains helpers in_helper _ _ (Are.more {f = f} {fs = fs} {body = body} {bodies = others} one rest) bodies uses =
      (subst (Each IsProperType) (sym one.types) (types_proper body.nodes (body_rows body.use_of body.nodes bodies.0 uses.0).0), functions_proper mains helpers in_helper fs others rest bodies.1 uses.1)

pub types-proper : TypesLaw
types-proper p schemes types g grounded =
    let mains : List Use = uses_of grounded.mains in
    let helpers : List Use = uses_of grounded.helpers in
    let instances = grounded.instances in
    let of_mains : Each HasUse mains = mains_rows p schemes types mains instances.first in
    let of_helpers : Each HasUse helpers = helpers_rows p schemes types mains instances.gathered helpers instances.second (gathered_rows p schemes types mains instances.gathered instances.inside of_mains) in
    (functions_proper p schemes types mains helpers false g.funs grounded.mains grounded.funs instances.main_bodies of_mains, functions_proper p schemes types mains helpers true g.helpers grounded.helpers grounded.others instances.helper_bodies of_helpers)
