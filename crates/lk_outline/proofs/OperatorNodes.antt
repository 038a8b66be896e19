-- What the node of an operator uses and compares, by its rule, is what its outline says with the types of the nodes.
use Rattle.std.proofs.Common.{◌≡◌, refl, sym, ap, ap₂, ℕ, ◌+◌, List, [], ◌∷◌, map, length, Some, None}
use Rattle.lk_ast.specs.Layers.{Layer, layer}
use Rattle.lk_ast.specs.declared.declaration.TableDecl.{TableDecl}
use Rattle.lk_ast.specs.declared.expression.Expr.{Expr}
use Rattle.lk_ast.specs.declared.expression.Node.TheOpen.{Node-F}
use Rattle.lk_types.specs.Rows.{EffectSet, effects_of}
use Rattle.lk_types.specs.declared.ground.Ground.{Ground}
use Rattle.lk_types.specs.declared.ground.Ground.TheVariants as known
use Rattle.lk_types.specs.declared.ty.Effect.{Effect}
use Rattle.lk_typing.specs.Heads as operator
use Rattle.lk_typing.specs.Heads.{Head}
use Rattle.lk_typing.specs.Names.{Named, Entry}
use Rattle.lk_typing.specs.Rules.{Rule}
use Rattle.lk_typing.specs.Typing.{HaveTypes, none, more, parts_of}
use Rattle.lk_sound.specs.Nodes.{Comparison, comparison, used_by, compared_by}
use Rattle.lk_outline.specs.Outline.{Context, Site, starts, outline}
use Rattle.lk_outline.specs.Typed.{type_at, effects_around, used, compared, block_at}
use Rattle.lk_outline.proofs.Captured.{type_is}
use Rattle.lk_outline.proofs.Lengths.{length_of}
use Rattle.lk_outline.proofs.Forms.{operand_kind, kind_of}
use Rattle.lk_outline.proofs.Stretches.{StandsAt, front, back}

module _ {functions : Named (Entry Ground)} {tables : List TableDecl} where
  -- parts one after another have their types at their first nodes
  pub types_start : {types : List Ground} {names : Named Ground} {effects : EffectSet} {es : List Expr} {ts inside : List Ground} → HaveTypes functions tables names effects es ts inside
      → (c : Context) (n : ℕ) → StandsAt types n inside → map (type_at types) (starts (map outline es) c n) ≡ ts
  types_start none c n at = refl
  types_start (more {e} {es} {t} inside rest first others) c n at =
      ap₂ (λ u us. u ∷ us) (type_is (front (t ∷ inside) rest at))
      (types_start others c (n + length (outline e c n)) (back (t ∷ inside) rest (length (outline e c n)) (length_of first c n) at))

first_starts : (types : List Ground) {t : Ground} {ts : List Ground} (es : List Expr) (c : Context) (n : ℕ) → map (type_at types) (starts (map outline es) c n) ≡ t ∷ ts → type_at types n ≡ t
first_starts types [] c n are = absurd cc
first_starts types (e ∷ es) c n are = cc

module _ (own : List Effect) (types : List Ground) where
  operand_uses : (l : Layer) (n : ℕ) (s : Site) → used own types s (operand_kind l n) ≡ None
  operand_uses (Node-F.Eq a b) n s = refl
  operand_uses other n s = refl

  operand_compares : (l : Layer) (n : ℕ) (t : Ground) → type_at types n ≡ t → comparison l t ≡ compared own types (operand_kind l n)
  operand_compares (Node-F.Eq a b) n t is = ap (λ u. Some (Comparison.Equality u)) (sym is)
  operand_compares (Node-F.Ne a b) n t is = ap (λ u. Some (Comparison.Equality u)) (sym is)
  operand_compares (Node-F.Lt a b) n t is = ap (λ u. Some (Comparison.Order u)) (sym is)
  operand_compares (Node-F.Le a b) n t is = ap (λ u. Some (Comparison.Order u)) (sym is)
  operand_compares (Node-F.Gt a b) n t is = ap (λ u. Some (Comparison.Order u)) (sym is)
  operand_compares (Node-F.Ge a b) n t is = ap (λ u. Some (Comparison.Order u)) (sym is)
  operand_compares other n t is = refl

  module _ (sites : List Site) where
    operand_block : (l : Layer) (n : ℕ) (s : Site) → block_at own types sites s (operand_kind l n) ≡ None
    operand_block (Node-F.Eq a b) n s = refl
    operand_block other n s = refl

    -- an operator is no query and no change
    pub kind_block : (h : Head) (l : Layer) (c : Context) (n : ℕ) (s : Site) → block_at own types sites s (kind_of (Some h) l c n) ≡ None
    kind_block operator.Comparison l c n s = operand_block l (1 + n) s
    kind_block other l c n s = refl

  module _ {functions : Named (Entry Ground)} {tables : List TableDecl} {names : Named Ground} {effects : EffectSet} where
    pub rule_uses : {h : Head} {ts : List Ground} {t : Ground} (e : Expr) (c : Context) (n : ℕ) (s : Site) (by : Rule functions tables names effects h ts t)
        → type_at types s.number ≡ t → effects_around own types s.around ≡ effects_of effects → map (type_at types) (starts (map outline (parts_of e)) c (1 + n)) ≡ ts
        → used_by by ≡ used own types s (kind_of (Some h) (layer e) c n)
    rule_uses e c n s (Rule.function {g} may) typed own_same starts_same = ap (λ u. Some (record { name = g; type = u })) (sym typed)
    rule_uses e c n s (Rule.call {g} may) typed own_same starts_same = (λ i. Some (record { name = g; type = known.Fun (sym starts_same i) (sym own_same i) (sym typed i) }))
    rule_uses e c n s Rule.comparison typed own_same starts_same = sym (operand_uses (layer e) (1 + n) s)
    rule_uses e c n s other typed own_same starts_same = refl

    pub rule_compares : {h : Head} {ts : List Ground} {t : Ground} (e : Expr) (c : Context) (n : ℕ) (by : Rule functions tables names effects h ts t)
        → map (type_at types) (starts (map outline (parts_of e)) c (1 + n)) ≡ ts
        → compared_by e by ≡ compared own types (kind_of (Some h) (layer e) c n)
    rule_compares e c n (Rule.comparison {t}) starts_same = operand_compares (layer e) (1 + n) t (first_starts types (parts_of e) c (1 + n) starts_same)
    rule_compares e c n other starts_same = refl
