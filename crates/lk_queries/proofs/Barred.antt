-- What an expression that only scans has not, nor one that may stand in a query.
use Rattle.std.proofs.Common.{◌≡◌, refl, subst, ℕ, true, false, List, Some}
use Rattle.std.proofs.lemmas.Bool.{false_from_ne_true, both_ways}
use Rattle.lk_ast.specs.declared.declaration.Program.{Program}
use Rattle.lk_ast.specs.declared.declaration.TableDecl.{TableDecl}
use Rattle.lk_ground_types.specs.Shapes.{is_query_type}
use Rattle.lk_sound.proofs.FlatTypes.{function_not_flat, unit_not_flat}
use Rattle.lk_sound.proofs.QueryParts.{IsEarly}
use Rattle.lk_sound.specs.Instances.{Instances, IsHelperNode, HasBody, AreClosed}
use Rattle.lk_sound.specs.Nodes.{Use, used_by}
use Rattle.lk_types.proofs.Members.{each_in}
use Rattle.lk_types.specs.Each.{Each}
use Rattle.lk_types.specs.Rows.{Label, EffectSet}
use Rattle.lk_types.specs.declared.ground.Ground.{Ground}
use Rattle.lk_types.specs.declared.ty.Effect.TheVariants as effect
use Rattle.lk_typing.specs.Heads as operator
use Rattle.lk_typing.specs.Names.{Named, types_of, Entry}
use Rattle.lk_typing.specs.Rules.{Rule}
use Rattle.lk_typing.specs.Rules as rule
use Rattle.lk_queries.specs.Law.{AtMostScan}

-- ---- effects that a query doesn't have

module _ (effects : EffectSet) (only : AtMostScan effects) where
  pub no_local : effects effect.Local ≡ false
  no_local = false_from_ne_true (effects effect.Local) (λ on. let wrong : effect.Local ≡ effect.Scan = only effect.Local on in cc)

  pub no_trap : effects effect.Trap ≡ false
  no_trap = false_from_ne_true (effects effect.Trap) (λ on. let wrong : effect.Trap ≡ effect.Scan = only effect.Trap on in cc)

  pub no_move : effects effect.Move ≡ false
  no_move = false_from_ne_true (effects effect.Move) (λ on. let wrong : effect.Move ≡ effect.Scan = only effect.Move on in cc)

-- ---- operators that don't stand in queries

module _ {functions : Named (Entry Ground)} {tables : List TableDecl} {locals : Named Ground} {effects : EffectSet} where
  -- what a query has isn't a function
  pub no_function : {p : Program} {i : Instances} (closed : AreClosed p i) (n : ℕ) (g : List ℕ) (ts : List Ground) (t : Ground) → is_query_type t ≡ true → (by : Rule functions tables locals effects (operator.Function g) ts t) → ((u : Use) → used_by by ≡ Some u → IsEarly p i.helpers n u) → ⊥
  no_function {p = p} {i = i} closed n g _ t flat (rule.function may) uses =
      let own : Use = record { name = g; type = t } in
      let early : IsEarly p i.helpers n own = uses own refl in
      let body : HasBody p (IsHelperNode p i.helpers own) own = each_in (λ u. HasBody p (IsHelperNode p i.helpers u) u) i.helpers own early.0 closed.helpers in
      function_not_flat (types_of body.has.typed.params) body.has.typed.effects body.has.typed.answer (subst (λ u. is_query_type u ≡ true) body.has.typed.is flat)

  pub no_apply : AtMostScan effects → (ts : List Ground) (t : Ground) → Rule functions tables locals effects operator.Apply ts t → ⊥
  no_apply only ts t (rule.apply local) = both_ways (effects effect.Local) (no_local effects only) local

  pub no_seq : (ts : List Ground) (t : Ground) → Rule functions tables locals effects operator.Seq ts t → Each (λ u. is_query_type u ≡ true) ts → ⊥
  no_seq _ t rule.seq flat = unit_not_flat flat.0

  pub no_print : (ts : List Ground) (t : Ground) → Rule functions tables locals effects operator.Print ts t → is_query_type t ≡ true → ⊥
  no_print ts _ (rule.print prints) flat = unit_not_flat flat

  pub no_insert : (x : Label) (ts : List Ground) (t : Ground) → Rule functions tables locals effects (operator.Insert x) ts t → is_query_type t ≡ true → ⊥
  no_insert x ts _ (rule.insert row has writes) flat = unit_not_flat flat
