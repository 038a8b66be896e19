-- A program's instances are fixed, and where they can't be listed, the reason is.
use Rattle.std.proofs.Common.{◌≡◌, List, [], ◌∷◌, Some, slice_get, length, refl, sym, ap, ap₂, subst, ◌∙◌}
use Rattle.lk_ast.specs.Functions.{functions_of}
use Rattle.lk_ast.specs.declared.declaration.FunDef.{FunDef}
use Rattle.lk_ast.specs.declared.declaration.Program.{Program}
use Rattle.lk_ast.specs.declared.place.Span.{Span}
use Rattle.lk_types.proofs.Parts.{same_some}
use Rattle.lk_ground_types.specs.Least.{least}
use Rattle.lk_mono.proofs.SameNodes.{same_nodes}
use Rattle.lk_mono.proofs.WalkedOnce.{done_once, done_small, done_within, full_or_large, large_once}
use Rattle.lk_mono.specs.Instances.{AreGathered, AreHelpers, AreInstances, AreMains, AreTooMany, Body, EndsFull, EndsLarge, HasBody, IsBody, IsDone, IsMain, IsTooLarge, everywhere, outside, own_turn, turn_of, uses_of, within_blocks}
use Rattle.lk_names.specs.Programs.{IsBound}
use Rattle.lk_outline.specs.Law.{OutlineLaw}
use Rattle.lk_principal.proofs.FunctionNames.{one_place}
use Rattle.lk_sound.proofs.Apart.{functions_apart}
use Rattle.lk_sound.specs.Nodes.{Use}
use Rattle.lk_types.specs.Each.{Each}
use Rattle.lk_types.specs.Grounding.{under}
use Rattle.lk_types.specs.declared.scheme.Scheme.{Scheme}
use Rattle.lk_types.specs.declared.ty.Ty.{Ty}

same_use : (u v : Use) → u.name ≡ v.name → u.type ≡ v.type → u ≡ v
same_use u v names types = λ i. record { name = names i; type = types i }

same_instance : (a b : Body) → a.use_of ≡ b.use_of → a.nodes ≡ b.nodes → a ≡ b
same_instance a b uses nodes = λ i. record { use_of = uses i; nodes = nodes i }

module _ (outline_law : OutlineLaw) (p : Program) (schemes : List Scheme) (types : List Ty) (bound : IsBound p) where
  main_once : (u v : Use) → IsMain p schemes u → IsMain p schemes v → u ≡ v
  main_once u v a b =
      let functions : a.function ≡ b.function = same_some (sym a.main ∙ b.main) in
      let numbers : a.number ≡ b.number = one_place (functions_of p) (functions_apart p bound) a.number b.number b.function (a.is ∙ ap (λ f. Some f) functions) b.is in
      let all : a.scheme ≡ b.scheme = same_some (sym a.has ∙ ap (slice_get schemes) numbers ∙ b.has) in
      same_use u v (a.name ∙ ap (λ (f : FunDef). f.name.text) functions ∙ sym b.name) (same_some (sym a.instance.body ∙ ap (λ (s : Scheme). under least s.body) all ∙ b.instance.body))

  mains_once : (a b : List Use) → AreMains p schemes types a → AreMains p schemes types b → a ≡ b
  mains_once a b (u, one, done) (v, other, ends) =
      done_once outline_law p schemes types bound own_turn outside 0 (u ∷ []) a b done (subst (λ w. IsDone p schemes types own_turn outside 0 (w ∷ []) b) (sym (main_once u v one other)) ends)

  gathered_once : (mains others a b : List Use) → mains ≡ others → AreGathered p schemes types mains a → AreGathered p schemes types others b → a ≡ b
  gathered_once mains others a b same one other =
      done_once outline_law p schemes types bound (turn_of mains) within_blocks (length mains) [] a b one (subst (λ ms. AreGathered p schemes types ms b) (sym same) other)

  helpers_once : (mains others gathered them a b : List Use) → mains ≡ others → gathered ≡ them → AreHelpers p schemes types mains gathered a → AreHelpers p schemes types others them b → a ≡ b
  helpers_once mains others gathered them a b same alike one other =
      done_once outline_law p schemes types bound own_turn everywhere (length mains) gathered a b one
      (subst (λ ms. AreHelpers p schemes types ms gathered b) (sym same) (subst (λ gs. AreHelpers p schemes types others gs b) (sym alike) other))

  bodies_once : (a b : List Body) → uses_of a ≡ uses_of b → Each (HasBody p schemes types) a → Each (HasBody p schemes types) b → a ≡ b
  bodies_once [] [] same one other = refl
  bodies_once [] (b ∷ more) same one other = cc
  bodies_once (a ∷ rest) [] same one other = cc
  bodies_once (a ∷ rest) (b ∷ more) same one other =
      let firsts : a.use_of ≡ b.use_of = cc in
      let rests : uses_of rest ≡ uses_of more = cc in
      let nodes : a.nodes ≡ b.nodes = same_nodes outline_law bound one.0 (subst (λ u. IsBody p schemes types u b.nodes) (sym firsts) other.0) in
      ap₂ (λ body bodies. body ∷ bodies) (same_instance a b firsts nodes) (bodies_once rest more rests one.1 other.1)

  -- both lists of two such
  pub instances_once : (mains helpers others them : List Body) → AreInstances p schemes types mains helpers → AreInstances p schemes types others them → (mains ≡ others) × (helpers ≡ them)
  instances_once mains helpers others them one other =
      let firsts : uses_of mains ≡ uses_of others = mains_once (uses_of mains) (uses_of others) one.first other.first in
      let inner : one.gathered ≡ other.gathered = gathered_once (uses_of mains) (uses_of others) one.gathered other.gathered firsts one.inside other.inside in
      let seconds : uses_of helpers ≡ uses_of them = helpers_once (uses_of mains) (uses_of others) one.gathered other.gathered (uses_of helpers) (uses_of them) firsts inner one.second other.second in
      (bodies_once mains others firsts one.main_bodies other.main_bodies, bodies_once helpers them seconds one.helper_bodies other.helper_bodies)

  -- ---- the ends of the three walks

  mains_within : (mains : List Use) (v : Use) → AreMains p schemes types mains → IsMain p schemes v → EndsFull p schemes types own_turn outside 0 (v ∷ []) → ⊥
  mains_within mains v (u, one, done) other over =
      done_within outline_law p schemes types bound own_turn outside 0 (u ∷ []) mains done (subst (λ w. EndsFull p schemes types own_turn outside 0 (w ∷ [])) (sym (main_once u v one other)) over)

  mains_small : (mains : List Use) (v : Use) (at : Span) → AreMains p schemes types mains → IsMain p schemes v → EndsLarge p schemes types own_turn outside 0 (v ∷ []) at → ⊥
  mains_small mains v at (u, one, done) other big =
      done_small outline_law p schemes types bound own_turn outside 0 (u ∷ []) mains at done (subst (λ w. EndsLarge p schemes types own_turn outside 0 (w ∷ []) at) (sym (main_once u v one other)) big)

  gathered_within : (mains others gathered : List Use) → AreMains p schemes types mains → AreMains p schemes types others → AreGathered p schemes types mains gathered
      → EndsFull p schemes types (turn_of others) within_blocks (length others) [] → ⊥
  gathered_within mains others gathered one other done over =
      done_within outline_law p schemes types bound (turn_of mains) within_blocks (length mains) [] gathered done
      (subst (λ ms. EndsFull p schemes types (turn_of ms) within_blocks (length ms) []) (sym (mains_once mains others one other)) over)

  helpers_within : (mains others gathered them helpers : List Use) → AreMains p schemes types mains → AreMains p schemes types others → AreGathered p schemes types mains gathered → AreGathered p schemes types others them
      → AreHelpers p schemes types mains gathered helpers → EndsFull p schemes types own_turn everywhere (length others) them → ⊥
  helpers_within mains others gathered them helpers one other all alike done over =
      let firsts : mains ≡ others = mains_once mains others one other in
      let inner : gathered ≡ them = gathered_once mains others gathered them firsts all alike in
      done_within outline_law p schemes types bound own_turn everywhere (length mains) gathered helpers done
      (subst (λ ms. EndsFull p schemes types own_turn everywhere (length ms) gathered) (sym firsts) (subst (λ gs. EndsFull p schemes types own_turn everywhere (length others) gs) (sym inner) over))

  helpers_small : (mains others gathered them helpers : List Use) (at : Span) → AreMains p schemes types mains → AreMains p schemes types others → AreGathered p schemes types mains gathered → AreGathered p schemes types others them
      → AreHelpers p schemes types mains gathered helpers → EndsLarge p schemes types own_turn everywhere (length others) them at → ⊥
  helpers_small mains others gathered them helpers at one other all alike done big =
      let firsts : mains ≡ others = mains_once mains others one other in
      let inner : gathered ≡ them = gathered_once mains others gathered them firsts all alike in
      done_small outline_law p schemes types bound own_turn everywhere (length mains) gathered helpers at done
      (subst (λ ms. EndsLarge p schemes types own_turn everywhere (length ms) gathered at) (sym firsts) (subst (λ gs. EndsLarge p schemes types own_turn everywhere (length others) gs at) (sym inner) big))

  -- ---- the reasons

  pub listed_within : (mains helpers : List Body) → AreInstances p schemes types mains helpers → AreTooMany p schemes types → ⊥
  listed_within mains helpers all (AreTooMany.of_mains {u} main over) = mains_within (uses_of mains) u all.first main over
  listed_within mains helpers all (AreTooMany.of_gathered {mains = others} first over) = gathered_within (uses_of mains) others all.gathered all.first first all.inside over
  listed_within mains helpers all (AreTooMany.of_helpers {mains = others} {gathered = them} first inside over) = helpers_within (uses_of mains) others all.gathered them (uses_of helpers) all.first first all.inside inside all.second over

  pub listed_small : (mains helpers : List Body) (at : Span) → AreInstances p schemes types mains helpers → IsTooLarge p schemes types at → ⊥
  listed_small mains helpers at all (IsTooLarge.of_mains {u} main big) = mains_small (uses_of mains) u at all.first main big
  listed_small mains helpers at all (IsTooLarge.of_helpers {mains = others} {gathered = them} first inside big) = helpers_small (uses_of mains) others all.gathered them (uses_of helpers) at all.first first all.inside inside all.second big

  pub many_or_large : (at : Span) → AreTooMany p schemes types → IsTooLarge p schemes types at → ⊥
  many_or_large at (AreTooMany.of_mains {u} main over) (IsTooLarge.of_mains {u = v} other big) =
      full_or_large outline_law p schemes types bound own_turn outside 0 (u ∷ []) at over (subst (λ w. EndsLarge p schemes types own_turn outside 0 (w ∷ []) at) (sym (main_once u v main other)) big)
  many_or_large at (AreTooMany.of_mains {u} main over) (IsTooLarge.of_helpers {mains = others} first inside big) = mains_within others u first main over
  many_or_large at (AreTooMany.of_gathered {mains} first over) (IsTooLarge.of_mains {u = v} other big) = mains_small mains v at first other big
  many_or_large at (AreTooMany.of_gathered {mains} first over) (IsTooLarge.of_helpers {mains = others} {gathered = them} second inside big) = gathered_within others mains them second first inside over
  many_or_large at (AreTooMany.of_helpers {mains} first inside over) (IsTooLarge.of_mains {u = v} other big) = mains_small mains v at first other big
  many_or_large at (AreTooMany.of_helpers {mains} {gathered} first inside over) (IsTooLarge.of_helpers {mains = others} {gathered = them} second within big) =
      let firsts : mains ≡ others = mains_once mains others first second in
      let inner : gathered ≡ them = gathered_once mains others gathered them firsts inside within in
      full_or_large outline_law p schemes types bound own_turn everywhere (length mains) gathered at over
      (subst (λ ms. EndsLarge p schemes types own_turn everywhere (length ms) gathered at) (sym firsts) (subst (λ gs. EndsLarge p schemes types own_turn everywhere (length others) gs at) (sym inner) big))

  pub too_large_once : (at place : Span) → IsTooLarge p schemes types at → IsTooLarge p schemes types place → at ≡ place
  too_large_once at place (IsTooLarge.of_mains {u} main big) (IsTooLarge.of_mains {u = v} other bigger) =
      large_once outline_law p schemes types bound own_turn outside 0 (u ∷ []) at place big (subst (λ w. EndsLarge p schemes types own_turn outside 0 (w ∷ []) place) (sym (main_once u v main other)) bigger)
  too_large_once at place (IsTooLarge.of_mains {u} main big) (IsTooLarge.of_helpers {mains = others} first inside bigger) = absurd (mains_small others u at first main big)
  too_large_once at place (IsTooLarge.of_helpers {mains} first inside big) (IsTooLarge.of_mains {u = v} other bigger) = absurd (mains_small mains v place first other bigger)
  too_large_once at place (IsTooLarge.of_helpers {mains} {gathered} first inside big) (IsTooLarge.of_helpers {mains = others} {gathered = them} second within bigger) =
      let firsts : mains ≡ others = mains_once mains others first second in
      let inner : gathered ≡ them = gathered_once mains others gathered them firsts inside within in
      large_once outline_law p schemes types bound own_turn everywhere (length mains) gathered at place big
      (subst (λ ms. EndsLarge p schemes types own_turn everywhere (length ms) gathered place) (sym firsts) (subst (λ gs. EndsLarge p schemes types own_turn everywhere (length others) gs place) (sym inner) bigger))
