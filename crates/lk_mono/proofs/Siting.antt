-- What is found in an instance is what the nodes before the first whose type is too large use.
use Rattle.std.proofs.Common.{◌≡◌, suc, ◌+◌, Bool, true, false, not, cond, List, [], ◌∷◌, map, take, Some, None, slice_get, if◌then◌else◌, refl, sym, ap, subst, ◌∙◌}
use Rattle.std.proofs.lemmas.Option.{none-some}
use Rattle.std.specs.List.{cons_option}
use Rattle.std.specs.Option.{option_map}
use Rattle.std.proofs.Math.Numerals.{one-add}
use Rattle.lk_mono.specs.Held.{AreSited, types_in}
use Rattle.lk_mono.specs.Held as held
use Rattle.lk_mono.specs.Instances.{before_large, first_large, fits}
use Rattle.lk_mono.specs.Looks.{IsLooked, TheFound, as_uses, first_beyond, found_in, found_of}
use Rattle.lk_mono.specs.declared.look.Looked.{Looked}
use Rattle.lk_sound.specs.Nodes.{TypedNode}
use Rattle.lk_outline.specs.Outline.{Kind, Site}
use Rattle.lk_outline.specs.Outline as outline
use Rattle.lk_outline.specs.Typed.{node_at, type_at, typed_nodes, used}
use Rattle.lk_typing.proofs.Levels.{map_after}
use Rattle.lk_types.specs.declared.ground.Ground.{Ground}
use Rattle.lk_types.specs.declared.ty.Effect.{Effect}

-- ---- where the first too large one stands

beyond_fitting : (t : Ground) (ts : List Ground) → fits t ≡ true → first_beyond (t ∷ ts) ≡ suc (first_beyond ts)
beyond_fitting t ts fit = ap (λ b. cond (not (not b)) (1 + first_beyond ts) 0) fit ∙ one-add (first_beyond ts)

beyond_large : (t : Ground) (ts : List Ground) → fits t ≡ false → first_beyond (t ∷ ts) ≡ 0
beyond_large t ts large = ap (λ b. cond (not (not b)) (1 + first_beyond ts) 0) large

-- where there is none, all nodes stand before it, and all types are made
all_before_by : (b : Bool) (node : TypedNode) (nodes : List TypedNode) → fits node.part.type ≡ b → first_large (node ∷ nodes) ≡ None
    → (fits node.part.type ≡ true) × (first_large nodes ≡ None)
all_before_by true node nodes fit none = (fit, sym (ap (λ b. if b then first_large nodes else Some node.part.span) fit) ∙ none)
all_before_by false node nodes large none = absurd (none-some node.part.span (sym none ∙ ap (λ b. if b then first_large nodes else Some node.part.span) large))

pub all_before : (nodes : List TypedNode) → first_large nodes ≡ None → before_large nodes ≡ nodes
all_before [] none = refl
all_before (node ∷ nodes) none =
    let both = all_before_by (fits node.part.type) node nodes refl none in
    ap (λ b. if b then node ∷ before_large nodes else []) both.0 ∙ ap (λ rest. node ∷ rest) (all_before nodes both.1)

module _ (own : List Effect) (ts : List Ground) where
  abbrev type_of : Site → Ground
  type_of s = type_at ts s.number

  by_kind : (node : TypedNode) (nodes : List TypedNode) (found : List TheFound) (s : Site) (k : Kind) → node.part.inside ≡ s.inside → node.part.use_of ≡ used own ts s k → fits (type_of s) ≡ true
      → AreSited nodes found → AreSited (node ∷ nodes) (cons_option (found_of own ts s k) found)
  by_kind node nodes found s (outline.Function g) inside is fit more = held.use_at is (sym inside) refl refl more
  by_kind node nodes found s (outline.Call g args) inside is fit more = held.use_at is (sym inside) refl refl more
  by_kind node nodes found s _ inside is fit more = held.other is more

  module _ (whole : List Site) where
    abbrev nodes_at : List Site → List TypedNode
    nodes_at sites = map (node_at own ts whole) sites

    -- their types
    abbrev pub made_at : List Site → List Ground
    made_at sites = map type_of sites

    sited_by : (b : Bool) (s : Site) (sites : List Site) → fits (type_of s) ≡ b → AreSited (before_large (nodes_at sites)) (found_in own ts (take (first_beyond (made_at sites)) sites))
        → AreSited (before_large (nodes_at (s ∷ sites))) (found_in own ts (take (first_beyond (made_at (s ∷ sites))) (s ∷ sites)))
    sited_by true s sites fit more =
        subst (λ n. AreSited (before_large (nodes_at (s ∷ sites))) (found_in own ts (take n (s ∷ sites)))) (sym (beyond_fitting (type_of s) (made_at sites) fit))
        (subst (λ nodes. AreSited nodes (found_in own ts (take (suc (first_beyond (made_at sites))) (s ∷ sites)))) (sym (ap (λ b. if b then node_at own ts whole s ∷ before_large (nodes_at sites) else []) fit))
        (by_kind (node_at own ts whole s) (before_large (nodes_at sites)) (found_in own ts (take (first_beyond (made_at sites)) sites)) s s.kind refl refl fit more))
    sited_by false s sites large more =
        subst (λ n. AreSited (before_large (nodes_at (s ∷ sites))) (found_in own ts (take n (s ∷ sites)))) (sym (beyond_large (type_of s) (made_at sites) large))
        (subst (λ nodes. AreSited nodes []) (sym (ap (λ b. if b then node_at own ts whole s ∷ before_large (nodes_at sites) else []) large)) held.none)

    pub sited_before : (sites : List Site) → AreSited (before_large (nodes_at sites)) (found_in own ts (take (first_beyond (made_at sites)) sites))
    sited_before [] = held.none
    sited_before (s ∷ sites) = sited_by (fits (type_of s)) s sites refl (sited_before sites)

    large_by : (b : Bool) (s : Site) (sites : List Site) → fits (type_of s) ≡ b → first_large (nodes_at sites) ≡ option_map (λ (x : Site). x.span) (slice_get sites (first_beyond (made_at sites)))
        → first_large (nodes_at (s ∷ sites)) ≡ option_map (λ (x : Site). x.span) (slice_get (s ∷ sites) (first_beyond (made_at (s ∷ sites))))
    large_by true s sites fit more =
        ap (λ b. if b then first_large (nodes_at sites) else Some s.span) fit ∙ more
        ∙ ap (λ n. option_map (λ (x : Site). x.span) (slice_get (s ∷ sites) n)) (sym (beyond_fitting (type_of s) (made_at sites) fit))
    large_by false s sites large more =
        ap (λ b. if b then first_large (nodes_at sites) else Some s.span) large
        ∙ ap (λ n. option_map (λ (x : Site). x.span) (slice_get (s ∷ sites) n)) (sym (beyond_large (type_of s) (made_at sites) large))

    pub large_at : (sites : List Site) → first_large (nodes_at sites) ≡ option_map (λ (x : Site). x.span) (slice_get sites (first_beyond (made_at sites)))
    large_at [] = refl
    large_at (s ∷ sites) = large_by (fits (type_of s)) s sites refl (large_at sites)

  -- ---- what there is in an instance with these types

  module _ (table : List Ground) (sites : List Site) (looked : Looked) (is : IsLooked table own ts sites looked) (nodes : List TypedNode) (are : nodes ≡ typed_nodes own ts sites) (types : types_in nodes ≡ ts) where
    types_at : map type_of sites ≡ ts
    types_at = map_after (λ (node : TypedNode). node.part.type) (node_at own ts sites) sites ∙ ap types_in (sym are) ∙ types

    pub uses_sited : AreSited (before_large nodes) (as_uses looked.uses)
    uses_sited = subst (λ ns. AreSited (before_large ns) (as_uses looked.uses)) (sym are)
        (subst (AreSited (before_large (typed_nodes own ts sites))) (sym is.uses)
        (subst (λ left. AreSited (before_large (typed_nodes own ts sites)) (found_in own ts (take (first_beyond left) sites))) types_at (sited_before sites sites)))

    pub large_is : first_large nodes ≡ looked.large
    large_is = ap first_large are ∙ large_at sites sites ∙ ap (λ left. option_map (λ (x : Site). x.span) (slice_get sites (first_beyond left))) types_at ∙ sym is.large

    pub all_uses_sited : first_large nodes ≡ None → AreSited nodes (as_uses looked.uses)
    all_uses_sited none = subst (λ ns. AreSited ns (as_uses looked.uses)) (all_before nodes none) uses_sited
