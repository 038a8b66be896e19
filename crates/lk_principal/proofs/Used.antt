-- What a typed function uses is an instance of the scheme of the function of that name, which stands before it where the one isn't
-- taken as one that may call itself.
use Rattle.std.proofs.Common.{◌≡◌, ◌⊎◌, inl, inr, ℕ, zero, suc, ◌+◌, ◌<◌, Bool, true, false, ◌||◌, List, [], ◌∷◌, ◌++◌, Some, slice_get, bytes_eq, refl, sym, ap, subst, ◌∙◌}
use native.Mathlib.Omega.{arith}
use Rattle.std.proofs.lemmas.Bool.{both_ways}
use Rattle.std.proofs.lemmas.Option.{none-some}
use Rattle.std.proofs.lemmas.Slice.Eq.{bytes_eq-Decides}
use Rattle.std.specs.List.{list_any}
use Rattle.lk_ast.specs.Functions.{functions_in, functions_of, function_named}
use Rattle.lk_ast.specs.declared.declaration.Decl.{Decl}
use Rattle.lk_ast.specs.declared.declaration.Decl.TheVariants.{Table, Fun, Mutual}
use Rattle.lk_ast.specs.declared.declaration.FunDef.{FunDef}
use Rattle.lk_ast.specs.declared.declaration.Program.{Program}
use Rattle.lk_names.specs.Programs.{IsBound}
use Rattle.lk_principal.proofs.FunctionNames.{names, found_named, one_place}
use Rattle.lk_principal.proofs.Emptied.{instance_at}
use Rattle.lk_principal.proofs.Standing.{HasScheme, IsPlaced, all_from, placed}
use Rattle.lk_principal.specs.Law.{IsInstanceOf, UseLaw}
use Rattle.lk_sound.proofs.Apart.{functions_apart}
use Rattle.lk_sound.proofs.Beside.{IsBeside, paired, own_pairs, earlier_named}
use Rattle.lk_sound.proofs.Names.{AreDistinct}
use Rattle.lk_types.proofs.Members.{one_at}
use Rattle.lk_types.proofs.Parts.{same_some}
use Rattle.lk_types.specs.Each.{OneOf}
use Rattle.lk_types.specs.Grounding.{Grounding}
use Rattle.lk_types.specs.Rows.{Label}
use Rattle.lk_types.specs.Schemes.{IsInstance}
use Rattle.lk_types.specs.declared.ground.Ground.{Ground}
use Rattle.lk_types.specs.declared.scheme.Scheme.{Scheme}
use Rattle.lk_typing.specs.Groups.{is_mutual, is_recursive, own_entries, scheme_entries}
use Rattle.lk_typing.specs.Names.{Named, named, Entry, One, Many, IsUse, MayBe}
use Rattle.lk_typing.specs.Programs.{AreAt}
use Rattle.lk_ast.specs.Tables.{tables_of}
use Rattle.lk_typing.specs.Uses.{functions_used}

-- ---- functions that don't call themselves

right_false : (a b : Bool) → (a || b) ≡ false → b ≡ false
right_false true b is = absurd cc
right_false false b is = is

left_false : (a b : Bool) → (a || b) ≡ false → a ≡ false
left_false true b is = is
left_false false b is = refl

-- such a function doesn't use its own name
other_used : (own g : Label) (used : List Label) → list_any (λ name. bytes_eq name own) used ≡ false → OneOf (λ name. name ≡ g) used → own ≡ g → ⊥
other_used own g [] none there same = there
other_used own g (name ∷ used) none (inl is) same =
    both_ways (bytes_eq name own) (left_false (bytes_eq name own) (list_any (λ name. bytes_eq name own) used) none) ((bytes_eq-Decides name own).1 (is ∙ sym same))
other_used own g (name ∷ used) none (inr later) same = other_used own g used (right_false (bytes_eq name own) (list_any (λ name. bytes_eq name own) used) none) later same

-- its declaration has no other function
only_one : (decl : Decl) → is_mutual decl ≡ false → (f g : FunDef) → OneOf (λ other. other ≡ f) (functions_in decl) → OneOf (λ other. other ≡ g) (functions_in decl) → f ≡ g
only_one (Table table) alone f g is at = absurd is
only_one (Fun h) alone f g (inl is) (inl at) = sym is ∙ at
only_one (Fun h) alone f g (inr is) at = absurd is
only_one (Fun h) alone f g (inl is) (inr at) = absurd at
only_one (Mutual fs) alone f g is at = absurd cc

-- what is declared is there at some place
place_of : {A : Type 0} (xs : List A) (x : A) → OneOf (λ other. other ≡ x) xs → (i : ℕ) × (slice_get xs i ≡ Some x)
place_of [] x one = absurd one
place_of (y ∷ xs) x (inl is) = (zero, ap (λ z. Some z) is)
place_of (y ∷ xs) x (inr later) = let found : (i : ℕ) × (slice_get xs i ≡ Some x) = place_of xs x later in (suc found.0, found.1)

-- beside a type of instances taken together stands a scheme
scheme_beside : (σ : Grounding) (schemes : List Scheme) (ts : List Ground) → AreAt σ schemes ts → (i : ℕ) (t : Ground) → slice_get ts i ≡ Some t → (scheme : Scheme) × (slice_get schemes i ≡ Some scheme)
scheme_beside σ [] [] are i t is = absurd (none-some t is)
scheme_beside σ [] (u ∷ ts) are i t is = absurd are
scheme_beside σ (scheme ∷ schemes) [] are i t is = absurd are
scheme_beside σ (scheme ∷ schemes) (u ∷ ts) are zero t is = (scheme, refl)
scheme_beside σ (scheme ∷ schemes) (u ∷ ts) are (suc i) t is = scheme_beside σ schemes ts are.1 i t is

-- ---- uses

module _ (p : Program) (schemes : List Scheme) (bound : IsBound p) (f : FunDef) (decl : Decl) (functions : Named (Entry Ground)) (at : IsPlaced (functions_of p) schemes (tables_of p) decl functions)
    (member : OneOf (λ other. other ≡ f) (functions_in decl)) (g : Label) where
  apart : AreDistinct (names (functions_of p))
  apart = functions_apart p bound

  found_at : (number : ℕ) (function : FunDef) → slice_get (functions_of p) number ≡ Some function → function.name.text ≡ g → function_named p g ≡ Some function
  found_at number function is name = subst (λ x. function_named p x ≡ Some function) name (found_named (functions_of p) function apart (one_at (functions_of p) number function is))

  -- an instance, which stands before the function where that one isn't taken as one that may call itself
  abbrev IsFound : Ground → Type 0
  IsFound u = (found : IsInstanceOf p schemes g u)
      × ((i : ℕ) → slice_get (functions_of p) i ≡ Some f → is_recursive (is_mutual decl) f ≡ false → OneOf (λ name. name ≡ g) (functions_used f.body) → found.number < i)

  -- its own function
  own_found : (u : Ground) → IsBeside {B = Entry Ground} One (functions_in decl) at.ts g (One u) → IsFound u
  own_found u it =
      let thing : it.thing ≡ u = cc in
      let its : slice_get at.ts it.place ≡ Some u = it.beside ∙ ap (λ t. Some t) thing in
      let general = at.inferred.general at.ts at.nodes at.group in
      let scheme : (s : Scheme) × (slice_get at.own it.place ≡ Some s) = scheme_beside general.0 at.own at.ts general.1 it.place u its in
      let instance : (t : Ground) × (slice_get at.ts it.place ≡ Some t) × IsInstance general.0 scheme.0 t = instance_at general.0 at.own at.ts general.1 it.place scheme.0 scheme.1 in
      let is : slice_get (functions_of p) (at.offset + it.place) ≡ Some it.function = at.function_at it.place it.function it.declared in (
        record {
          number = at.offset + it.place;
          function = it.function;
          scheme = scheme.0;
          σ = general.0;
          is = is;
          named = found_at (at.offset + it.place) it.function is it.name;
          has = at.scheme_at it.place scheme.0 scheme.1;
          instance = subst (IsInstance general.0 scheme.0) (same_some (sym instance.1 ∙ its)) instance.2;
        },
        λ i its_place alone used.
            let same : f ≡ it.function = only_one decl (left_false (is_mutual decl) (list_any (λ name. bytes_eq name f.name.text) (functions_used f.body)) alone) f it.function member (one_at (functions_in decl) it.place it.function it.declared) in
            absurd (other_used f.name.text g (functions_used f.body) (right_false (is_mutual decl) (list_any (λ name. bytes_eq name f.name.text) (functions_used f.body)) alone) used (ap (λ (h : FunDef). h.name.text) same ∙ it.name)),
      )

  -- an earlier one
  earlier_found : (u : Ground) (τ : Grounding) (scheme : Scheme) → IsInstance τ scheme u → named g at.earlier ≡ Some scheme → IsFound u
  earlier_found u τ scheme its is =
      let one : (number : ℕ) × (number < at.offset) × HasScheme (functions_of p) schemes g scheme number = at.before g scheme is in
      let within : one.0 < at.offset = one.1 in
      let mine : (j : ℕ) × (slice_get (functions_in decl) j ≡ Some f) = place_of (functions_in decl) f member in (
        record {
          number = one.0;
          function = one.2.function;
          scheme = scheme;
          σ = τ;
          is = one.2.is;
          named = found_at one.0 one.2.function one.2.is one.2.name;
          has = one.2.has;
          instance = its;
        },
        λ i its_place alone used.
            let same : i ≡ at.offset + mine.0 = one_place (functions_of p) apart i (at.offset + mine.0) f its_place (at.function_at mine.0 f mine.1) in
            omega arith,
      )

  entry_found : (u : Ground) (entry : Entry Ground) → IsUse entry u → IsBeside One (functions_in decl) at.ts g entry ⊎ (named g (scheme_entries at.earlier) ≡ Some entry) → IsFound u
  entry_found u _ IsUse.one (inl own) = own_found u own
  entry_found u _ IsUse.one (inr before) =
      let found : (scheme : Scheme) × (named g at.earlier ≡ Some scheme) × (Many scheme ≡ One u) = earlier_named at.earlier g (One u) before in
      let wrong : Many found.0 ≡ One u = found.2 in
      absurd cc
  entry_found u _ (IsUse.instance {τ = τ} {scheme = scheme} its) (inl own) =
      let wrong : One own.thing ≡ Many scheme = own.is in
      absurd cc
  entry_found u _ (IsUse.instance {τ = τ} {scheme = scheme} its) (inr before) =
      let found : (s : Scheme) × (named g at.earlier ≡ Some s) × (Many s ≡ Many scheme) = earlier_named at.earlier g (Many scheme) before in
      let many : ◌≡◌ {A = Entry Ground} (Many found.0) (Many scheme) = found.2 in
      let same : found.0 ≡ scheme = cc in
      earlier_found u τ scheme its (found.1 ∙ ap (λ s. Some s) same)

  use_found : (u : Ground) → MayBe functions g u → IsFound u
  use_found u may =
      let is : named g (own_entries (functions_in decl) at.ts ++ scheme_entries at.earlier) ≡ Some may.0 = ap (named g) (sym at.are) ∙ may.1 in
      entry_found u may.0 may.2 (paired One (functions_in decl) at.ts (scheme_entries at.earlier) g may.0
      (subst (λ own. named g (own ++ scheme_entries at.earlier) ≡ Some may.0) (own_pairs (functions_in decl) at.ts) is))

pub use_law : UseLaw
use_law p schemes types has bound f t nodes typed g u may =
    let at : IsPlaced (functions_of p) schemes (tables_of p) typed.decl typed.functions =
    placed (functions_of p) schemes (tables_of p) typed.decl false [] p.decls schemes schemes types typed.functions 0 has typed.seen refl (all_from (functions_of p) schemes) (λ g scheme is. absurd (none-some scheme is)) in
    use_found p schemes bound f typed.decl typed.functions at typed.member g u may
