-- Which operators an expression of a query may have, by their rules: none that uses a function, that needs its own side or may trap, and none of whose type a query can't be.
use Rattle.std.proofs.Common.{◌≡◌, Bool, true, false, not, List, [], ◌∷◌, Some, None, sym, ◌∙◌, ap, subst}
use Rattle.std.proofs.lemmas.Bool.{not-true, both_ways}
use Rattle.lk_ast.specs.Layers.{Layer, layer}
use Rattle.lk_ast.specs.declared.declaration.TableDecl.{TableDecl}
use Rattle.lk_ast.specs.declared.expression.Expr.{Expr}
use Rattle.lk_ast.specs.declared.expression.Node.TheOpen.{Node-F}
use Rattle.lk_ground_types.specs.Shapes.{is_base, is_list, is_query_type}
use Rattle.lk_inline.proofs.QueryTypes.{variant_not_flat}
use Rattle.lk_sound.proofs.FlatTypes.{unit_not_flat}
use Rattle.lk_sound.specs.Nodes.{Equality, Order, compared_by, comparison, may_compare, used_by}
use Rattle.lk_types.specs.Each.{Each}
use Rattle.lk_types.specs.Rows.{EffectSet, Label}
use Rattle.lk_types.specs.declared.ground.Ground.{Ground}
use Rattle.lk_types.specs.declared.ground.Ground.TheVariants as known
use Rattle.lk_types.specs.declared.ty.Effect.TheVariants as effect
use Rattle.lk_typing.specs.Heads as operator
use Rattle.lk_typing.specs.Heads.{Head, head}
use Rattle.lk_typing.specs.Names.{Entry, Named}
use Rattle.lk_typing.specs.Rules.{Rule}
use Rattle.lk_typing.specs.Rules as rule
use Rattle.lk_typing.specs.Typing.{expr_of, label_of}

-- a node whose operator, if it has one, a query may have
abbrev pub IsOfQuery : Layer → Type 0
IsOfQuery (Node-F.Function g) = ⊥
IsOfQuery (Node-F.Call g args) = ⊥
IsOfQuery (Node-F.Apply f args) = ⊥
IsOfQuery (Node-F.Seq d rest) = ⊥
IsOfQuery (Node-F.Cons a b) = ⊥
IsOfQuery (Node-F.Div a b) = ⊥
IsOfQuery (Node-F.Mod a b) = ⊥
IsOfQuery (Node-F.Hd d) = ⊥
IsOfQuery (Node-F.Tl d) = ⊥
IsOfQuery (Node-F.IntToString d) = ⊥
IsOfQuery (Node-F.Print d) = ⊥
IsOfQuery (Node-F.Tag l d) = ⊥
IsOfQuery (Node-F.Insert x d) = ⊥
IsOfQuery other = Unit {0}

module _ (functions : Named (Entry Ground)) (tables : List TableDecl) (locals : Named Ground) (effects : EffectSet) (e : Expr) where
  abbrev By : Head → List Ground → Ground → Type 0
  By = Rule functions tables locals effects

  -- the rule of an operator that uses no function, which compares what a query may
  pub record IsBy (h : Head) (ts : List Ground) (t : Ground) : Type 0 where
    pub by : By h ts t
    pub uses : used_by by ≡ None
    pub compares : may_compare (compared_by e by) ≡ true

  pub by_head : (g h : Head) (ts : List Ground) (t : Ground) → Some g ≡ Some h → IsBy h ts t → IsBy g ts t
  by_head g h ts t is by = let same : g ≡ h = cc in subst (λ x. IsBy x ts t) (sym same) by

  -- comparisons: what holds of two base types by an order, and of two types that are no lists by an equality
  pub order_by : (Holds : List Ground → Ground → Type 0) (l : Layer) (ts : List Ground) (t : Ground) → layer e ≡ l → IsBy operator.Comparison ts t → ((u : Ground) → comparison l u ≡ Some (Order u)) → ((u : Ground) → is_base u ≡ true → Holds (u ∷ u ∷ []) known.Bool) → Holds ts t
  order_by Holds l ts t is r order arm = by ts t r.by r.compares
    where
      by : (ts : List Ground) (t : Ground) (r : By operator.Comparison ts t) → may_compare (compared_by e r) ≡ true → Holds ts t
      by _ _ (rule.comparison {t = u}) compares = arm u (subst (λ c. may_compare c ≡ true) (ap (λ l. comparison l u) is ∙ order u) compares)

  pub equality_by : (Holds : List Ground → Ground → Type 0) (l : Layer) (ts : List Ground) (t : Ground) → layer e ≡ l → IsBy operator.Comparison ts t → ((u : Ground) → comparison l u ≡ Some (Equality u)) → Each (λ u. is_query_type u ≡ true) ts
      → ((u : Ground) → is_query_type u ≡ true → is_list u ≡ false → Holds (u ∷ u ∷ []) known.Bool) → Holds ts t
  equality_by Holds l ts t is r equal flats arm = by ts t r.by r.compares flats
    where
      by : (ts : List Ground) (t : Ground) (r : By operator.Comparison ts t) → may_compare (compared_by e r) ≡ true → Each (λ u. is_query_type u ≡ true) ts → Holds ts t
      by _ _ (rule.comparison {t = u}) compares flats = arm u flats.0 (not-true (is_list u) (subst (λ c. may_compare c ≡ true) (ap (λ l. comparison l u) is ∙ equal u) compares))

  module _ (own : effects effect.Local ≡ false) (traps : effects effect.Trap ≡ false) where
    no_function : (g : Label) (ts : List Ground) (t : Ground) → IsBy (operator.Function g) ts t → ⊥
    no_function g ts t is = by ts t is.by is.uses
      where
        by : (us : List Ground) (u : Ground) (r : By (operator.Function g) us u) → used_by r ≡ None → ⊥
        by _ u (rule.function may) is = cc

    no_call : (g : Label) (ts : List Ground) (t : Ground) → IsBy (operator.Call g) ts t → ⊥
    no_call g ts t is = by ts t is.by is.uses
      where
        by : (us : List Ground) (u : Ground) (r : By (operator.Call g) us u) → used_by r ≡ None → ⊥
        by us u (rule.call may) is = cc

    no_apply : (ts : List Ground) (t : Ground) → By operator.Apply ts t → ⊥
    no_apply ts t (rule.apply local) = both_ways (effects effect.Local) own local

    no_seq : (ts : List Ground) (t : Ground) → By operator.Seq ts t → Each (λ u. is_query_type u ≡ true) ts → ⊥
    no_seq _ t rule.seq flat = unit_not_flat flat.0

    no_cons : (ts : List Ground) (t : Ground) → By operator.Cons ts t → ⊥
    no_cons ts t (rule.cons local) = both_ways (effects effect.Local) own local

    no_division : (ts : List Ground) (t : Ground) → By operator.Division ts t → ⊥
    no_division ts t (rule.division may) = both_ways (effects effect.Trap) traps may

    no_first : (ts : List Ground) (t : Ground) → By operator.First ts t → ⊥
    no_first ts t (rule.first may local) = both_ways (effects effect.Trap) traps may

    no_rest : (ts : List Ground) (t : Ground) → By operator.Rest ts t → ⊥
    no_rest ts t (rule.rest a may local) = both_ways (effects effect.Trap) traps may

    no_text_of : (ts : List Ground) (t : Ground) → By operator.IntToString ts t → ⊥
    no_text_of ts t (rule.int_to_string local) = both_ways (effects effect.Local) own local

    no_print : (ts : List Ground) (t : Ground) → By operator.Print ts t → is_query_type t ≡ true → ⊥
    no_print ts _ (rule.print prints) flat = unit_not_flat flat

    no_tag : (x : Label) (ts : List Ground) (t : Ground) → By (operator.Tag x) ts t → is_query_type t ≡ true → ⊥
    no_tag x ts _ (rule.tag other row made) flat = variant_not_flat row flat

    no_insert : (x : Label) (ts : List Ground) (t : Ground) → By (operator.Insert x) ts t → is_query_type t ≡ true → ⊥
    no_insert x ts _ (rule.insert row has writes) flat = unit_not_flat flat

    pub of_query : (l : Layer) (h : Head) (ts : List Ground) (t : Ground) → head label_of expr_of l ≡ Some h → IsBy h ts t → is_query_type t ≡ true → Each (λ u. is_query_type u ≡ true) ts → IsOfQuery l
    of_query (Node-F.Function g) h ts t its r flat flats = no_function g ts t (by_head (operator.Function g) h ts t its r)
    of_query (Node-F.Call g args) h ts t its r flat flats = no_call g.text ts t (by_head (operator.Call g.text) h ts t its r)
    of_query (Node-F.Apply f args) h ts t its r flat flats = no_apply ts t (by_head operator.Apply h ts t its r).by
    of_query (Node-F.Seq d rest) h ts t its r flat flats = no_seq ts t (by_head operator.Seq h ts t its r).by flats
    of_query (Node-F.Cons a b) h ts t its r flat flats = no_cons ts t (by_head operator.Cons h ts t its r).by
    of_query (Node-F.Div a b) h ts t its r flat flats = no_division ts t (by_head operator.Division h ts t its r).by
    of_query (Node-F.Mod a b) h ts t its r flat flats = no_division ts t (by_head operator.Division h ts t its r).by
    of_query (Node-F.Hd d) h ts t its r flat flats = no_first ts t (by_head operator.First h ts t its r).by
    of_query (Node-F.Tl d) h ts t its r flat flats = no_rest ts t (by_head operator.Rest h ts t its r).by
    of_query (Node-F.IntToString d) h ts t its r flat flats = no_text_of ts t (by_head operator.IntToString h ts t its r).by
    of_query (Node-F.Print d) h ts t its r flat flats = no_print ts t (by_head operator.Print h ts t its r).by flat
    of_query (Node-F.Tag l d) h ts t its r flat flats = no_tag l.text ts t (by_head (operator.Tag l.text) h ts t its r).by flat
    of_query (Node-F.Insert x d) h ts t its r flat flats = no_insert x.text ts t (by_head (operator.Insert x.text) h ts t its r).by flat
    of_query other h ts t its r flat flats = tt
