-- The instances of a table are those of its ground program.
use Rattle.std.proofs.Common.{◌≡◌, refl, sym, ap, subst, ◌∙◌, ℕ, zero, suc, ◌+◌, ◌≤◌, ◌<◌, List, [], ◌∷◌, length, Some, slice_get, arith}
use Rattle.std.proofs.lemmas.Option.{none-some, slice_get_past}
use Rattle.std.specs.Prelude.{IsSome, option_map}
use Rattle.lk_ast.specs.Layers.{Layer}
use Rattle.lk_ast.specs.declared.place.Span.{Span}
use Rattle.lk_types.proofs.Parts.{same_some}
use Rattle.lk_ir.specs.declared.nodes.Block.{Block}
use Rattle.lk_ir.specs.declared.nodes.Kept.{Kept}
use Rattle.lk_ir.specs.declared.nodes.Kind.TheVariants as kind
use Rattle.lk_ground.specs.declared.program.GroundFun.{GroundFun}
use Rattle.lk_ground.specs.declared.program.GroundProgram.{GroundProgram}
use Rattle.lk_ir.specs.Tables.{HasBodies, body_of, mark_of, most_instances, place_by, place_of}
use Rattle.lk_ir.specs.declared.nodes.Forms.{Forms}
use Rattle.lk_lower.specs.Law.{ArePlaces, IsBlock, place_of_fun, title_of_fun}
use Rattle.lk_lower.specs.Lowering as low
use Rattle.lk_lower.specs.Lowering.{AreForms, AreFuns, IsTouched, Pending, Shell}

-- what reads or changes tables, by its label
pub blocks : (f : Forms) (owner n ty : ℕ) (l : Layer) (at : Span) (p q : Pending) (b : Block) (label : ℕ) (kept : List Kept) → Shell f owner n ty l at p (kind.Reach b label kept) q → IsBlock f owner n ty l p label kept
blocks f owner n ty l at p q b label kept (low.table of) = record { label_is = refl; form = of.form; is = of.is; owner_is = of.owner_is; node_is = of.node_is; ty_is = of.ty_is; kept_are = tt; touched = λ t none. absurd (none-some t none) }
blocks f owner n ty l at p q b label kept (low.insert of touched) = record { label_is = refl; form = of.form; is = of.is; owner_is = of.owner_is; node_is = of.node_is; ty_is = of.ty_is; kept_are = tt; touched = λ t is. subst (IsTouched f label) (same_some is) touched }
blocks f owner n ty l at p q b label kept (low.query of are) = record { label_is = refl; form = of.form; is = of.is; owner_is = of.owner_is; node_is = of.node_is; ty_is = of.ty_is; kept_are = are.types_are; touched = λ t none. absurd (none-some t none) }
blocks f owner n ty l at p q b label kept (low.update of are touched) = record { label_is = refl; form = of.form; is = of.is; owner_is = of.owner_is; node_is = of.node_is; ty_is = of.ty_is; kept_are = are.types_are; touched = λ t is. subst (IsTouched f label) (same_some is) touched }
blocks f owner n ty l at p q b label kept (low.delete of are touched) = record { label_is = refl; form = of.form; is = of.is; owner_is = of.owner_is; node_is = of.node_is; ty_is = of.ty_is; kept_are = are.types_are; touched = λ t is. subst (IsTouched f label) (same_some is) touched }

module _ (f : Forms) where
  -- from this instance on
  places_from : (i : ℕ) (funs : List GroundFun) (label next : ℕ) → AreFuns f i funs label next → (k : ℕ) → place_of f (k + i) ≡ option_map place_of_fun (slice_get funs k)
  places_from i _ label next (low.no_fun wholes named labels nodes) k = ap (place_by f) (slice_get_past f.wholes (k + i) (let e : length f.wholes ≤ k + i = omega (arith, wholes) in e))
  places_from i _ label next (low.one_fun {fun = fun} {funs = funs} body after ty whole named type has lowered others) zero =
      ap (λ n. place_of f n) (let e : zero + i ≡ i = omega arith in e) ∙ ap (place_by f) whole
      ∙ ap mark_of (ap body_of has.is ∙ has.body_is) ∙ ap Some has.place_is
  places_from i _ label next (low.one_fun {fun = fun} {funs = funs} body after ty whole named type has lowered others) (suc k) =
      ap (λ n. place_of f n) (let e : suc k + i ≡ k + (1 + i) = omega arith in e) ∙ places_from (1 + i) funs after.label after.next others k

  titles_from : (i : ℕ) (funs : List GroundFun) (label next : ℕ) → AreFuns f i funs label next → (k : ℕ) → slice_get f.titles (k + i) ≡ option_map title_of_fun (slice_get funs k)
  titles_from i _ label next (low.no_fun wholes named labels nodes) k = slice_get_past f.titles (k + i) (let e : length f.titles ≤ k + i = omega (arith, named) in e)
  titles_from i _ label next (low.one_fun {fun = fun} {funs = funs} body after ty whole named type has lowered others) zero =
      ap (slice_get f.titles) (let e : zero + i ≡ i = omega arith in e) ∙ named
  titles_from i _ label next (low.one_fun {fun = fun} {funs = funs} body after ty whole named type has lowered others) (suc k) =
      ap (slice_get f.titles) (let e : suc k + i ≡ k + (1 + i) = omega arith in e) ∙ titles_from (1 + i) funs after.label after.next others k

  count_from : (i : ℕ) (funs : List GroundFun) (label next : ℕ) → AreFuns f i funs label next → length f.wholes ≡ i + length funs
  count_from i _ label next (low.no_fun wholes named labels nodes) = wholes ∙ (let e : i ≡ i + 0 = omega arith in e)
  count_from i _ label next (low.one_fun {fun = fun} {funs = funs} body after ty whole named type has lowered others) =
      count_from (1 + i) funs after.label after.next others ∙ (let e : (1 + i) + length funs ≡ i + suc (length funs) = omega arith in e)

pub all_places : (g : GroundProgram) (f : Forms) → AreForms g f → ArePlaces g f
all_places g f of = record {
  counted = count_from f 0 g.funs 1 0 of.funs ∙ (let e : 0 + length g.funs ≡ length g.funs = omega arith in e);
  places = λ i. ap (λ n. place_of f n) (let e : i ≡ i + 0 = omega arith in e) ∙ places_from f 0 g.funs 1 0 of.funs i;
  titles = λ i. ap (slice_get f.titles) (let e : i ≡ i + 0 = omega arith in e) ∙ titles_from f 0 g.funs 1 0 of.funs i;
}

-- so each has a place
some_below : (funs : List GroundFun) (i : ℕ) → i < length funs → IsSome (option_map place_of_fun (slice_get funs i))
some_below [] i below = absurd (let wrong : i < 0 = below in omega arith)
some_below (fun ∷ funs) zero below = refl
some_below (fun ∷ funs) (suc i) below = some_below funs i (let e : suc i < suc (length funs) = below in omega arith)

pub placed_below : (g : GroundProgram) (f : Forms) → AreForms g f → (i : ℕ) → i < length f.wholes → IsSome (place_of f i)
placed_below g f of i below =
    let all = all_places g f of in
    subst IsSome (sym (all.places i)) (some_below g.funs i (subst (λ n. i < n) all.counted below))

pub have_bodies : (g : GroundProgram) (f : Forms) → length f.wholes < most_instances → AreForms g f → HasBodies f
have_bodies g f few of = record { counted = few; bodies = placed_below g f of }
