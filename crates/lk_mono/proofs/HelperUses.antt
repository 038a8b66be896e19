-- No helper has the type of a function that may call itself, and all parts of the bodies of helpers may stand in a query.
use Rattle.std.proofs.Common.{◌≡◌, inl, inr, ℕ, zero, suc, Bool, true, false, List, [], ◌∷◌, ◌++◌, Option, Some, None, slice_get, append_assoc, append-nil, refl, sym, ap, subst, ◌∙◌}
use Rattle.std.proofs.lemmas.Option.{none-some}
use Rattle.std.proofs.lemmas.Bool.{true_from_ne_false}
use Rattle.lk_ast.specs.declared.declaration.Program.{Program}
use Rattle.lk_mono.proofs.BlockUses.{HasGoodBlock, IsFlatPart, IsGoodBlock, UsesSuch, block_uses, each_of_parts}
use Rattle.lk_mono.proofs.FlatUses.{UsesLoopless, flat_uses}
use Rattle.lk_mono.proofs.Growing.{appended}
use Rattle.lk_mono.proofs.Loopless.{IsLoopless, function_recurs, is_recursive_type}
use Rattle.lk_mono.proofs.Among.{each_among}
use Rattle.lk_mono.proofs.Ones.{each_as}
use Rattle.lk_mono.proofs.SameNodes.{same_nodes}
use Rattle.lk_mono.specs.Instances.{AreInstances, Body, HasBody, IsBody, IsWalked, IsWith, everywhere, own_turn, turn_of, uses_among, uses_of, with_use, within_blocks}
use Rattle.lk_mono.specs.Instances as instances
use Rattle.lk_mono.specs.Shapes.{AreShaped, IsFaultless, IsHelper, IsNotFlat, IsOdd, IsShaped, IsUsedBy, Reaches, is_flat_part}
use Rattle.lk_mono.specs.Shapes as shapes
use Rattle.lk_mono.specs.declared.error.ShapeKind.TheVariants.{QueryNotFlat}
use Rattle.lk_names.specs.Programs.{IsBound}
use Rattle.lk_outline.specs.Law.{OutlineLaw}
use Rattle.lk_sound.specs.Nodes.{Block, Part, TypedNode, Use, nodes_of, parts_of}
use Rattle.lk_types.proofs.Members.{each_in, each_both}
use Rattle.lk_types.specs.Each.{Each, OneOf}
use Rattle.lk_types.specs.declared.scheme.Scheme.{Scheme}
use Rattle.lk_types.specs.declared.ty.Effect.TheVariants as effect
use Rattle.lk_types.specs.declared.ty.Ty.{Ty}
use Rattle.lk_typing.specs.Names.{types_of}

-- ---- parts

none_odd : (parts : List Part) → (OneOf IsOdd parts → ⊥) → Each IsFlatPart parts
none_odd [] isnt = tt
none_odd (part ∷ parts) isnt = (true_from_ne_false (is_flat_part part) (λ odd. isnt (inl odd)), none_odd parts (λ odd. isnt (inr odd)))

each_used : (R : Use → Type 0) (parts : List Part) → ((u : Use) → OneOf (IsUsedBy u) parts → R u) → Each (UsesSuch R) parts
each_used R [] all = tt
each_used R (part ∷ parts) all = (λ u uses. all u (inl uses), each_used R parts (λ u one. all u (inr one)))

-- what holds of the uses inside, where only these are looked for
module _ (P : Use → Type 0) where
  with_inside : (b : Bool) (o : Option Use) (rest : List Use) → ((u : Use) → b ≡ true → o ≡ Some u → P u) → Each P rest → Each P (with_use b o rest)
  with_inside true (Some u) rest first each = (first u refl refl, each)
  with_inside true None rest first each = each
  with_inside false o rest first each = each

  each_inside : (nodes : List TypedNode) → Each (λ (node : TypedNode). (u : Use) → node.part.inside ≡ true → node.part.use_of ≡ Some u → P u) nodes → Each P (uses_among within_blocks nodes)
  each_inside [] each = tt
  each_inside (node ∷ nodes) each = with_inside node.part.inside node.part.use_of (uses_among within_blocks nodes) each.0 (each_inside nodes each.1)

  -- what holds of a list and of what is put behind it
  with_more : {others : ℕ} (list us longer : List Use) → IsWith others list us longer → Each P list → Each P us → Each P longer
  with_more list [] longer instances.IsWith.nothing all new = all
  with_more list (u ∷ us) longer (instances.IsWith.there listed more) all new = with_more list us longer more all new.1
  with_more list (u ∷ us) longer (instances.IsWith.lacking lacks room more) all new = with_more (list ++ u ∷ []) us longer more (each_both P list (u ∷ []) all (new.0, tt)) new.1

-- ---- places

front_at : {A : Type 0} (xs ys : List A) (n : ℕ) (x : A) → slice_get xs n ≡ Some x → slice_get (xs ++ ys) n ≡ Some x
front_at [] ys n x is = absurd (none-some x is)
front_at (y ∷ xs) ys zero x is = is
front_at (y ∷ xs) ys (suc n) x is = front_at xs ys n x is

-- the instance at a place, with its body
pub body_there : (bodies : List Body) (n : ℕ) (u : Use) → slice_get (uses_of bodies) n ≡ Some u → (body : Body) × (body.use_of ≡ u) × (slice_get bodies n ≡ Some body) × OneOf (λ b. b ≡ body) bodies
body_there [] n u is = absurd (none-some u is)
body_there (body ∷ bodies) zero u is = (body, (let same : body.use_of ≡ u = cc in same), refl, inl refl)
body_there (body ∷ bodies) (suc n) u is = let found = body_there bodies n u is in (found.0, found.1, found.2, inr found.3)

-- the effects of an instance whose type isn't that of a function that may call itself
pub effects_free : {p : Program} {schemes : List Scheme} {types : List Ty} {u : Use} {nodes : List TypedNode} (body : IsBody p schemes types u nodes) → IsLoopless u.type → body.typed.is.typed.effects effect.Rec ≡ false
effects_free body loopless =
    sym (function_recurs (types_of body.typed.is.typed.params) body.typed.is.typed.effects body.typed.is.typed.answer) ∙ ap is_recursive_type (sym body.typed.is.typed.is) ∙ loopless

-- ---- what is reached

module _ (helpers : List Body) where
  reaches_on : {u v w : Use} → Reaches helpers u v → Reaches helpers v w → Reaches helpers u w
  reaches_on first shapes.Reaches.itself = first
  reaches_on first (shapes.Reaches.further nodes second helper uses) = shapes.Reaches.further nodes (reaches_on first second) helper uses

  -- all helpers that it reaches may stand in a query
  abbrev pub IsClear : Use → Type 0
  IsClear u = (v : Use) (nodes : List TypedNode) → Reaches helpers u v → IsHelper helpers v nodes → Each IsFlatPart (parts_of nodes)

  abbrev pub IsGood : Use → Type 0
  IsGood u = IsLoopless u.type × IsClear u

  pub good_block : (block : Block) → (IsNotFlat helpers block → ⊥) → IsGoodBlock IsClear block
  good_block block flat = record {
    flat = none_odd block.parts (λ odd. flat (shapes.IsNotFlat.itself odd));
    such = each_used IsClear block.parts (λ u uses v nodes reaches helper. none_odd (parts_of nodes) (λ odd. flat (shapes.IsNotFlat.reached nodes uses reaches helper odd)));
  }

  good_node : (node : TypedNode) → IsFaultless helpers node → HasGoodBlock IsClear node
  good_node node faultless block is = good_block block (λ isnt. faultless QueryNotFlat (shapes.Fault.not_flat is isnt))

  module _ {p : Program} {schemes : List Scheme} {types : List Ty} {u : Use} {nodes : List TypedNode} (body : IsBody p schemes types u nodes) where
    -- what an instance without faults uses inside of queries, updates and deletions
    inside_good : Each (IsFaultless helpers) nodes → Each IsGood (uses_among within_blocks nodes)
    inside_good faultless =
        subst (λ ns. Each IsGood (uses_among within_blocks ns)) (sym body.are)
        (each_inside IsGood (nodes_of false body.typed.is.typed.body)
        (block_uses IsClear body.typed.is.typed.body
        (each_as (IsFaultless helpers) (HasGoodBlock IsClear) (nodes_of false body.typed.is.typed.body) good_node (subst (Each (IsFaultless helpers)) body.are faultless))))

    -- what a helper uses
    all_loopless : IsLoopless u.type → Each IsFlatPart (parts_of nodes) → Each UsesLoopless nodes
    all_loopless loopless flat =
        subst (Each UsesLoopless) (sym body.are)
        (flat_uses false body.typed.is.typed.body (effects_free body loopless) (each_of_parts IsFlatPart (nodes_of false body.typed.is.typed.body) (subst (λ ns. Each IsFlatPart (parts_of ns)) body.are flat)))

    clear_behind : IsHelper helpers u nodes → IsClear u → (w : Use) → OneOf (IsUsedBy w) (parts_of nodes) → IsClear w
    clear_behind helper clear w uses v ns reaches = clear v ns (reaches_on (shapes.Reaches.further nodes shapes.Reaches.itself helper uses) reaches)

    both_good : (ns : List TypedNode) → Each UsesLoopless ns → Each (UsesSuch IsClear) (parts_of ns) → Each (λ (node : TypedNode). (w : Use) → node.part.use_of ≡ Some w → IsGood w) ns
    both_good [] loopless clear = tt
    both_good (node ∷ ns) loopless clear = (λ w uses. (loopless.0 w uses, clear.0 w uses), both_good ns loopless.1 clear.1)

    helper_good : IsHelper helpers u nodes → IsGood u → Each IsGood (uses_among everywhere nodes)
    helper_good helper good =
        each_among IsGood everywhere nodes
        (both_good nodes
        (all_loopless good.0 (good.1 u nodes shapes.Reaches.itself helper))
        (each_used IsClear (parts_of nodes) (clear_behind helper good.1)))

-- ---- both lists

module _ (outline_law : OutlineLaw) (p : Program) (schemes : List Scheme) (types : List Ty) (bound : IsBound p) (mains helpers : List Body)
    (main_bodies : Each (HasBody p schemes types) mains) (helper_bodies : Each (HasBody p schemes types) helpers) (are_shaped : Each (IsShaped helpers) mains) where
  -- the instance at a place has the nodes that it has in the list of bodies
  nodes_there : (bodies : List Body) → Each (HasBody p schemes types) bodies → (n : ℕ) (u : Use) (nodes : List TypedNode) → slice_get (uses_of bodies) n ≡ Some u → IsBody p schemes types u nodes
      → (body : Body) × (body.use_of ≡ u) × (body.nodes ≡ nodes) × OneOf (λ b. b ≡ body) bodies
  nodes_there bodies have n u nodes at is =
      let found = body_there bodies n u at in
      let its : IsBody p schemes types found.0.use_of found.0.nodes = each_in (HasBody p schemes types) bodies found.0 found.3 have in
      (found.0, found.1, same_nodes outline_law bound (subst (λ w. IsBody p schemes types w found.0.nodes) found.1 its) is, found.3)

  main_uses : (n : ℕ) (u : Use) (nodes : List TypedNode) → slice_get (uses_of mains) n ≡ Some u → IsBody p schemes types u nodes → Each (IsGood helpers) (uses_among within_blocks nodes)
  main_uses n u nodes at is =
      let found = nodes_there mains main_bodies n u nodes at is in
      inside_good helpers is (subst (Each (IsFaultless helpers)) found.2 (each_in (IsShaped helpers) mains found.0 found.3 are_shaped))

  helper_uses : (n : ℕ) (u : Use) (nodes : List TypedNode) → slice_get (uses_of helpers) n ≡ Some u → IsBody p schemes types u nodes → IsGood helpers u → Each (IsGood helpers) (uses_among everywhere nodes)
  helper_uses n u nodes at is good =
      let found = nodes_there helpers helper_bodies n u nodes at is in
      helper_good helpers is (subst (λ b. OneOf (λ other. other ≡ b) helpers) (λ i. record { use_of = found.1 i; nodes = found.2 i }) found.3) good

  gathered_good : {others n : ℕ} {list : List Use} → IsWalked p schemes types (turn_of (uses_of mains)) within_blocks others [] n list → Each (IsGood helpers) list
  gathered_good instances.IsWalked.start = tt
  gathered_good (instances.IsWalked.next {n} {list} {longer} {u} {nodes} walked at is small more) =
      with_more (IsGood helpers) list (uses_among within_blocks nodes) longer more (gathered_good walked) (main_uses n u nodes at is)

  -- the list in its turn is the first part of all helpers
  helpers_good : {first : List Use} {others n : ℕ} {list : List Use} → IsWalked p schemes types own_turn everywhere others first n list → Each (IsGood helpers) first → (rest : List Use) → uses_of helpers ≡ list ++ rest → Each (IsGood helpers) list
  helpers_good instances.IsWalked.start good rest is = good
  helpers_good (instances.IsWalked.next {n} {list} {longer} {u} {nodes} walked at body small more) good rest is =
      let added = appended list (uses_among everywhere nodes) longer more in
      let before : uses_of helpers ≡ list ++ (added.0 ++ rest) = is ∙ ap (λ us. us ++ rest) added.1 ∙ append_assoc list added.0 rest in
      let so_far = helpers_good walked good (added.0 ++ rest) before in
      with_more (IsGood helpers) list (uses_among everywhere nodes) longer more so_far
      (helper_uses n u nodes (ap (λ us. slice_get us n) before ∙ front_at list (added.0 ++ rest) n u at) body (at_place list n u at so_far))
    where
      at_place : (us : List Use) (k : ℕ) (w : Use) → slice_get us k ≡ Some w → Each (IsGood helpers) us → IsGood helpers w
      at_place [] k w found all = absurd (none-some w found)
      at_place (v ∷ us) zero w found all = let same : v ≡ w = cc in subst (IsGood helpers) same all.0
      at_place (v ∷ us) (suc k) w found all = at_place us k w found all.1

-- all helpers are good
pub all_good : OutlineLaw → (p : Program) (schemes : List Scheme) (types : List Ty) → IsBound p → (mains helpers : List Body) → AreInstances p schemes types mains helpers → AreShaped mains helpers → Each (IsGood helpers) (uses_of helpers)
all_good outline_law p schemes types bound mains helpers are (shapes.AreShaped.shaped first plain_answer are_shaped) =
    helpers_good outline_law p schemes types bound mains helpers are.main_bodies are.helper_bodies are_shaped are.second.walked
    (gathered_good outline_law p schemes types bound mains helpers are.main_bodies are.helper_bodies are_shaped are.inside.walked)
    [] (sym (append-nil (uses_of helpers)))
