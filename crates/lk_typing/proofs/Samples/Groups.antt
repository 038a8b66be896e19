-- What a group's schemes have to say: what f may not take, the scheme of g says too, though it comes from the body of f.
-- mutual { fun f(r) { var s = (x = 1 | r); 0 } fun g(r) { f(r) } }
use Rattle.std.proofs.Common.{◌≡◌, zero, suc, true, false, List, [], ◌∷◌, ◌++◌, refl, sym, subst, ap, ap₂, ◌∙◌, Some}
use Rattle.std.specs.Prelude.{codes, slice_get}
use Rattle.lk_ast.specs.declared.declaration.Decl.{Decl}
use Rattle.lk_ast.specs.declared.declaration.Decl.TheVariants.{Fun, Mutual}
use Rattle.lk_ast.specs.declared.declaration.FunDef.{FunDef}
use Rattle.lk_ast.specs.declared.declaration.Program.{Program}
use Rattle.lk_ast.specs.declared.declaration.TableDecl.{TableDecl}
use Rattle.lk_ast.specs.declared.expression.Node.{the_lemmas}
use Rattle.lk_ast.specs.declared.expression.Node.TheVariants as node
use Rattle.lk_ast.specs.declared.place.Loc.TheVariants.{Any}
use Rattle.lk_types.proofs.Parts.{same_some}
use Rattle.lk_types.proofs.Unfold.{under_int}
use Rattle.lk_types.specs.Grounding.{Grounding, under}
use Rattle.lk_types.specs.Rows.{Row, EffectSet, no_fields, has_label, same_effect}
use Rattle.lk_types.specs.Schemes.{IsInstance}
use Rattle.lk_types.specs.declared.ground.Ground.{Ground}
use Rattle.lk_types.specs.declared.ground.Ground.TheVariants as known
use Rattle.lk_types.specs.declared.scheme.Lack.{Lack}
use Rattle.lk_types.specs.declared.scheme.Scheme.{Scheme}
use Rattle.lk_types.specs.declared.ty.Effect.TheVariants as effect
use Rattle.lk_types.specs.declared.ty.RowTail.TheVariants.{Var}
use Rattle.lk_types.specs.declared.ty.Ty.TheVariants as ty
use Rattle.lk_typing.proofs.EffectRows.{without, with_back, with_it}
use Rattle.lk_typing.proofs.Operators.{row_is}
use Rattle.lk_typing.proofs.Samples.Forms.{at, part, number, name, call, fun, of_name, of_number, of_field, of_call, name_has, call_has}
use Rattle.lk_typing.proofs.Samples.Functions.{f, f_body, of_f_body, f_type, without_x, with_x, not_at_x}
use Rattle.lk_typing.proofs.Samples.Programs.{IsType, has_type, Covers, first_declaration, only_type, holds, every, more_general, none_general, one_to, calls_itself, function_has, one_param}
use Rattle.lk_typing.proofs.Samples.Types.{added, bare, standing, one_to_is, one_to_was}
use Rattle.lk_typing.specs.Groups.{none, more, IsGroup, scheme_entries}
use Rattle.lk_typing.specs.Names.{Named, MayBe, IsUse, One, Many, one, instance}
use Rattle.lk_typing.specs.Programs as program
use Rattle.lk_typing.specs.Programs.{AreAt, AreInstances, StandAlone, Hold, entries, IsTypedBy, IsWellTyped, ArePrincipal}
use Rattle.lk_typing.specs.Types.{record_of, function_of, with_fields}
use Rattle.lk_typing.specs.Unknowns as unknown
use Rattle.lk_typing.specs.Uses.{functions_used}

abbrev pub g : FunDef
g = fun (codes "g") (codes "r") Any (call (codes "f") (name (codes "r")))

abbrev pub pair : Decl
pair = Mutual (f ∷ g ∷ [])

-- ((|t1)) {rec|t2}-> Int
abbrev pub scheme_with : List Lack → Scheme
scheme_with lacks = one_to (unknown.record_of [] (Var 1)) (effect.Rec ∷ []) 2 ty.Int lacks

-- where t1 lacks x, and where nothing is said of it
abbrev pub lacking : Scheme
lacking = scheme_with without_x

abbrev pub silent : Scheme
silent = scheme_with []

-- ---- the types of the group

pub record PairType (t : Ground) : Type 0 where
  pub row : Row
  pub effects : EffectSet
  pub lacks : has_label row (codes "x") ≡ false
  pub recurs : effects effect.Rec ≡ true
  pub is : t ≡ f_type row effects

one_use : {t u : Ground} → IsUse (One t) u → u ≡ t
one_use one = refl

module _ (earlier : Named Scheme) (tables : List TableDecl) where
  pub pair_typed : (t : Ground) → PairType t → (nodes : List Ground) × IsGroup earlier tables pair (t ∷ t ∷ []) nodes
  pair_typed t its =
      let u : Ground = f_type its.row its.effects in
      let body = f_body its.row its.lacks in
      let group : (nodes : List Ground) × IsGroup earlier tables pair (u ∷ u ∷ []) nodes = (
        _,
        more _ _ (function_has f (codes "r") _ _ its.effects body.0 refl tt (λ it. absurd cc) tt its.recurs body.1)
            (more _ _ (function_has g (codes "r") (record_of its.row) known.Int its.effects _ refl tt (λ it. absurd cc) tt its.recurs (call_has (codes "f") (name_has (codes "r") refl) (One u, refl, one))) none),
      ) in
      (group.0, subst (λ v. IsGroup earlier tables pair (v ∷ v ∷ []) group.0) (sym its.is) group.1)

  -- in every typing both take a record without x, and have one type
  pub pair_types : (t u : Ground) (nodes : List Ground) → IsGroup earlier tables pair (t ∷ u ∷ []) nodes → (t ≡ u) × PairType u
  pair_types t u nodes (more of_first rest first (more of_second others second none)) =
      let a = one_param f (codes "r") refl first in
      let b = of_f_body a.body in
      let c = one_param g (codes "r") refl second in
      let d = of_call (codes "f") (name (codes "r")) c.body in
      let is_f : function_of (d.0 ∷ []) c.effects c.answer ≡ t = one_use (subst (λ e. IsUse e (function_of (d.0 ∷ []) c.effects c.answer)) (sym (same_some d.3.1)) d.3.2) in
      let same : t ≡ u = sym is_f ∙ ap (λ p. function_of (p ∷ []) c.effects c.answer) (sym (same_some (of_name (codes "r") d.2))) ∙ sym c.is in
      (same, record { row = b.0; effects = a.effects; lacks = b.1; recurs = a.recurs; is = sym same ∙ a.is ∙ ap₂ (λ p z. function_of (p ∷ []) a.effects z) b.2 b.3 })

  -- two functions have two types
  pub two_types : (ts nodes : List Ground) → IsGroup earlier tables pair ts nodes → (t : Ground) × (ts ≡ t ∷ t ∷ []) × PairType t
  two_types [] nodes group = let wrong : ⊥ = elim group [ ] in absurd wrong
  two_types (t ∷ []) nodes (more of_first rest first others) = let wrong : ⊥ = elim others [ ] in absurd wrong
  two_types (t ∷ u ∷ []) nodes group = let its = pair_types t u nodes group in (u, ap (λ v. v ∷ u ∷ []) its.0, its.1)
  two_types (t ∷ u ∷ v ∷ ts) nodes (more of_first rest first (more of_second behind second others)) = let wrong : ⊥ = elim others [ ] in absurd wrong

  -- the second is never at a row with x
  pub g_never_at_x : (t : Ground) (s : EffectSet) (a : Ground) (nodes : List Ground) → IsGroup earlier tables pair (t ∷ function_of (record_of with_x ∷ []) s a ∷ []) nodes → ⊥
  g_never_at_x t s a nodes group = let its = (pair_types t _ nodes group).1 in not_at_x its.row s its.effects a its.lacks its.is

-- ---- instances of the schemes, whatever they lack

pub instance_is : (σ : Grounding) (lacks : List Lack) (t : Ground) → IsInstance σ (scheme_with lacks) t → (s : EffectSet) × (s effect.Rec ≡ true) × (t ≡ f_type (σ.rows 1) s)
instance_is σ lacks t its =
    let w = one_to_was σ _ _ _ t its.body in
    (w.s, with_it effect.Rec (σ.effects 2) w.s w.effects, w.is ∙ ap₂ (λ p a. function_of (p ∷ []) w.s a) (same_some (sym w.param ∙ row_is σ 1)) (same_some (sym w.answer ∙ under_int σ)))

-- what stands for the variables at a type
abbrev pub at_type : Row → EffectSet → Grounding
at_type row s = standing known.Int row (without effect.Rec s)

body_is : (row : Row) (s : EffectSet) (lacks : List Lack) → s effect.Rec ≡ true → under (at_type row s) (scheme_with lacks).body ≡ Some (f_type row s)
body_is row s lacks recurs = let σ = at_type row s in one_to_is σ _ _ _ (row_is σ 1) (with_back effect.Rec s recurs) (under_int σ)

-- ---- with the lack on the scheme of f alone

pub not_together : (t : Ground) (s : EffectSet) → AreInstances (lacking ∷ silent ∷ []) (t ∷ f_type with_x s ∷ []) → ⊥
not_together t s instances =
    let σ : Grounding = instances.0 in
    let its = instance_is σ [] (f_type with_x s) instances.1.1.0 in
    not_at_x (σ.rows 1) s its.0 known.Int instances.1.0.lacks.0 its.2

-- Each instance of the scheme of g alone would have to be part of one of both.
pub pair_not_held : (earlier : Named Scheme) (tables : List TableDecl) → Hold earlier tables pair (lacking ∷ silent ∷ []) → ⊥
pair_not_held earlier tables hold =
    let s : EffectSet = same_effect effect.Rec in
    let both = hold.alone 1 silent (at_type with_x s) (f_type with_x s) refl (record { body = body_is with_x s [] refl; lacks = tt }) in
    by_types both.0 both.1 both.2
  where
    by_types : (ts : List Ground) → AreInstances (lacking ∷ silent ∷ []) ts → slice_get ts 1 ≡ Some (f_type with_x (same_effect effect.Rec)) → ⊥
    by_types [] instances is = instances.1
    by_types (t ∷ []) instances is = instances.1.1
    by_types (t ∷ u ∷ []) instances is = not_together t (same_effect effect.Rec) (subst (λ v. AreInstances (lacking ∷ silent ∷ []) (t ∷ v ∷ [])) (same_some is) instances)
    by_types (t ∷ u ∷ v ∷ ts) instances is = instances.1.1.1

-- ---- with the lack on each

pub lacking_covers : Covers lacking PairType
lacking_covers = record {
  some = (_, record { row = no_fields; effects = same_effect effect.Rec; lacks = bare (codes "x"); recurs = refl; is = refl });
  fits = λ σ t its. let i = instance_is σ without_x t its in record { row = σ.rows 1; effects = i.0; lacks = its.lacks.0; recurs = i.1; is = i.2 };
  at = λ t its. (at_type its.row its.effects, record { body = body_is its.row its.effects without_x its.recurs ∙ ap (λ u. Some u) (sym its.is); lacks = (its.lacks, tt) });
}

-- one scheme for two functions: what is an instance of one is one of the other
twice_alone : (scheme : Scheme) → StandAlone (scheme ∷ scheme ∷ [])
twice_alone scheme zero own σ t is its = let both = subst (λ s. IsInstance σ s t) (sym (same_some is)) its in (t ∷ t ∷ [], (σ, (both, (both, tt))), refl)
twice_alone scheme (suc zero) own σ t is its = let both = subst (λ s. IsInstance σ s t) (sym (same_some is)) its in (t ∷ t ∷ [], (σ, (both, (both, tt))), refl)
twice_alone scheme (suc (suc i)) own σ t is its = absurd cc

pair_instances : (ts : List Ground) → (t : Ground) × (ts ≡ t ∷ t ∷ []) × PairType t → AreInstances (lacking ∷ lacking ∷ []) ts
pair_instances ts its = let i = lacking_covers.at its.0 its.2 in (i.0, subst (AreAt i.0 (lacking ∷ lacking ∷ [])) (sym its.1) (i.1, (i.1, tt)))

pub pair_holds : Hold [] [] pair (lacking ∷ lacking ∷ [])
pair_holds = let t : Ground = lacking_covers.some.0 in record { some = (t ∷ t ∷ [], pair_instances (t ∷ t ∷ []) (t, refl, lacking_covers.some.1)); alone = twice_alone lacking; each = each }
  where
    each : (ts : List Ground) → AreInstances (lacking ∷ lacking ∷ []) ts → (nodes : List Ground) × IsGroup [] [] pair ts nodes
    each [] instances = absurd instances.1
    each (t ∷ []) instances = absurd instances.1.1
    each (t ∷ u ∷ []) instances =
        let σ : Grounding = instances.0 in
        let same : t ≡ u = same_some (sym instances.1.0.body ∙ instances.1.1.0.body) in
        let group = pair_typed [] [] t (lacking_covers.fits σ t instances.1.0) in
        (group.0, subst (λ v. IsGroup [] [] pair (t ∷ v ∷ []) group.0) same group.1)
    each (t ∷ u ∷ v ∷ ts) instances = absurd instances.1.1.1

-- ---- behind the group

abbrev behind : List Scheme → Named Scheme
behind schemes = entries (f ∷ g ∷ []) schemes ++ []

many_use : {scheme : Scheme} {t : Ground} → IsUse (Many scheme) t → (σ : Grounding) × IsInstance σ scheme t
many_use (instance {τ = τ} its) = (τ, its)

-- Whatever schemes the group has, g is used behind it only at types that it has in it.
used_behind : (schemes : List Scheme) → Hold [] [] pair schemes → (u : Ground) → MayBe (scheme_entries (behind schemes)) (codes "g") u → PairType u
used_behind [] hold u may = absurd cc
used_behind (s ∷ []) hold u may = absurd cc
used_behind (s ∷ r ∷ schemes) hold u may =
    let its = many_use (subst (λ e. IsUse e u) (sym (same_some may.1)) may.2) in
    let all = hold.alone 1 r its.0 u refl its.1 in
    let group = hold.each all.0 all.1 in
    let two = two_types [] [] all.0 group.0 group.1 in
    subst PairType (same_some (sym (ap (λ ts. slice_get ts 1) two.1) ∙ all.2)) two.2

-- fun k(r) { g(r) }
abbrev k : FunDef
k = fun (codes "k") (codes "r") Any (call (codes "g") (name (codes "r")))

abbrev pair_k : Program
pair_k = record { decls = pair ∷ Fun k ∷ [] }

k_uses : functions_used k.body ≡ codes "g" ∷ []
unfolding functions_used
k_uses = search the_lemmas

k_typed : (t : Ground) → PairType t → (nodes : List Ground) × IsType (behind (lacking ∷ lacking ∷ [])) k t nodes
k_typed t its =
    let i = lacking_covers.at (f_type its.row its.effects) (record { row = its.row; effects = its.effects; lacks = its.lacks; recurs = its.recurs; is = refl }) in
    has_type (behind (lacking ∷ lacking ∷ [])) k its.is (function_has k (codes "r") (record_of its.row) known.Int its.effects _ refl tt (λ it. absurd cc) tt (calls_itself k _ its.effects k_uses tt)
    (call_has (codes "g") (name_has (codes "r") refl) (Many lacking, refl, instance i.1)))

k_types : (schemes : List Scheme) → Hold [] [] pair schemes → (t : Ground) (nodes : List Ground) → IsType (behind schemes) k t nodes → PairType t
k_types schemes hold t nodes typed =
    let a = one_param k (codes "r") refl typed in
    let c = of_call (codes "g") (name (codes "r")) a.body in
    subst PairType (ap (λ p. function_of (p ∷ []) a.effects a.answer) (sym (same_some (of_name (codes "r") c.2))) ∙ sym a.is) (used_behind schemes hold _ c.3)

-- with the lack in each they are schemes of the program
pub k_typed_lacking : IsTypedBy pair_k (lacking ∷ lacking ∷ lacking ∷ [])
k_typed_lacking = program.HaveSchemes.more (lacking ∷ lacking ∷ []) (lacking ∷ []) pair_holds
    (program.HaveSchemes.more (lacking ∷ []) [] (holds (behind (lacking ∷ lacking ∷ [])) k lacking PairType lacking_covers k_typed) program.HaveSchemes.none)

-- and the most general ones
pub k_principal : ArePrincipal pair_k (lacking ∷ lacking ∷ lacking ∷ [])
k_principal = record {
  typed = k_typed_lacking;
  most_general = more_general pair (Fun k ∷ []) (lacking ∷ lacking ∷ []) (lacking ∷ []) refl (λ ts nodes group. pair_instances ts (two_types [] [] ts nodes group))
      (λ schemes hold. more_general (Fun k) [] (lacking ∷ []) [] refl (every (behind schemes) k lacking PairType lacking_covers (k_types schemes hold)) (λ others held. none_general));
}

-- fun h(a) { g((x = 2)) }
abbrev h : FunDef
h = fun (codes "h") (codes "a") Any (call (codes "g") (at (node.Record (part (codes "x") (number 2) ∷ []))))

abbrev pair_h : Program
pair_h = record { decls = pair ∷ Fun h ∷ [] }

-- It calls g at a row with x, so the program is not well typed, whatever schemes are tried.
pub h_not_well_typed : IsWellTyped pair_h → ⊥
h_not_well_typed typed =
    let first = first_declaration typed.1 in
    let second = first_declaration first.then in
    let group = second.hold.each second.hold.some.0 second.hold.some.1 in
    let only = only_type (behind first.schemes) h second.hold.some.0 group.0 group.1 in
    let a = one_param h (codes "a") refl only.3 in
    let c = of_call (codes "g") (at (node.Record (part (codes "x") (number 2) ∷ []))) a.body in
    let r = of_field (codes "x") (number 2) c.2 in
    let row : r.row ≡ with_x = same_some (sym r.whole ∙ ap (λ b. with_fields ((codes "x", b) ∷ []) no_fields) (of_number 2 r.typed) ∙ added (codes "x") known.Int no_fields (bare (codes "x"))) in
    let its = used_behind first.schemes first.hold (function_of (c.0 ∷ []) a.effects a.answer) c.3 in
    not_at_x its.row a.effects its.effects a.answer its.lacks (ap (λ p. function_of (p ∷ []) a.effects a.answer) (sym (r.is ∙ ap record_of row)) ∙ its.is)
