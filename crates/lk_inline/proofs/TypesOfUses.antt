-- What the nodes of a typed expression use has a type of rows, where all nodes have.
use Rattle.std.proofs.Common.{◌≡◌, refl, subst, Bool, true, List, [], ◌++◌, None, Some}
use Rattle.lk_ast.specs.declared.declaration.TableDecl.{TableDecl}
use Rattle.lk_ast.specs.declared.expression.Case.{Case}
use Rattle.lk_ast.specs.declared.expression.ChangeExpr.{ChangeExpr}
use Rattle.lk_ast.specs.declared.expression.Expr.{Expr}
use Rattle.lk_inline.proofs.TypesOfRows.{AllOfRows, OfRows}
use Rattle.lk_sound.specs.Nodes.{TypedNode, Use, case_nodes, change_nodes, each_nodes, nodes_of, used_by}
use Rattle.lk_types.proofs.Members.{each_front, each_back, each_both}
use Rattle.lk_types.specs.Each.{Each}
use Rattle.lk_types.specs.Rows.{EffectSet, effects_of}
use Rattle.lk_types.specs.declared.ground.Ground.{Ground}
use Rattle.lk_typing.specs.Heads.{Head}
use Rattle.lk_typing.specs.Names.{Entry, Named}
use Rattle.lk_typing.specs.Rules.{Rule}
use Rattle.lk_typing.specs.Rules as rule
use Rattle.lk_typing.specs.Types.{function_of}
use Rattle.lk_typing.specs.Typing.{HasType, HaveTypes, HaveCases, IsChange, plain, lambda, var, switch, switch_open, for_list, for_table, query, update, delete, none, more, no_cases, case_of, changed}

-- the node has such a type, and what it uses has
abbrev pub HasRows : TypedNode → Type 0
HasRows node = OfRows node.part.type

abbrev pub UsesRows : TypedNode → Type 0
UsesRows node = (u : Use) → node.part.use_of ≡ Some u → OfRows u.type

-- of a node that uses no function
uses_none : (u : Use) → None ≡ Some u → OfRows u.type
uses_none u is = absurd cc

-- nodes one after another
two_uses : (ns ms : List TypedNode) → (Each HasRows ns → Each UsesRows ns) → (Each HasRows ms → Each UsesRows ms) → Each HasRows (ns ++ ms) → Each UsesRows (ns ++ ms)
two_uses ns ms one next all = each_both UsesRows ns ms (one (each_front HasRows ns ms all)) (next (each_back HasRows ns ms all))

module _ {functions : Named (Entry Ground)} {tables : List TableDecl} where
  -- the first node's type is the expression's own
  own_rows : {names : Named Ground} {effects : EffectSet} {e : Expr} {t : Ground} {inside : List Ground} (flag : Bool) (d : HasType functions tables names effects e t inside) → Each HasRows (nodes_of flag d) → OfRows t
  unfolding nodes_of
  own_rows flag (plain h ts is have by) all = all.0
  own_rows flag (lambda l params own a is named moves body local) all = all.0
  own_rows flag (var x d rest a first last is one next) all = all.0
  own_rows flag (switch d cases row tags ts first bodies is one have same made local) all = all.0
  own_rows flag (switch_open d cases last rest row tags ts first bodies inside is one have same next made local) all = all.0
  own_rows flag (for_list x d body a c first inside is one next) all = all.0
  own_rows flag (for_table x rows body a c first inside is one next) all = all.0
  own_rows flag (query keys body a inside is one sorted scans own) all = all.0
  own_rows flag (update change is changes writes) all = all.0
  own_rows flag (delete change is changes writes) all = all.0

  parts_rows : {names : Named Ground} {effects : EffectSet} {es : List Expr} {ts inside : List Ground} (flag : Bool) (d : HaveTypes functions tables names effects es ts inside) → Each HasRows (each_nodes flag d) → AllOfRows ts
  unfolding nodes_of
  parts_rows flag none all = AllOfRows.none
  parts_rows flag (more inside rest first others) all =
      AllOfRows.more (own_rows flag first (each_front HasRows (nodes_of flag first) (each_nodes flag others) all)) (parts_rows flag others (each_back HasRows (nodes_of flag first) (each_nodes flag others) all))

  -- an operator uses a function at its own type, or at that of a call
  used_rows : {names : Named Ground} {effects : EffectSet} {h : Head} {ts : List Ground} {t : Ground} (by : Rule functions tables names effects h ts t) → AllOfRows ts → OfRows t → (u : Use) → used_by by ≡ Some u → OfRows u.type
  used_rows {t = t} (rule.function {g = g} may) parts own u is = let same : record { name = g; type = t } ≡ u = cc in subst (λ (u : Use). OfRows u.type) same own
  used_rows {effects = effects} {ts = ts} {t = t} (rule.call {g = g} may) parts own u is =
      let same : record { name = g; type = function_of ts effects t } ≡ u = cc in
      subst (λ (u : Use). OfRows u.type) same (OfRows.fun ts (effects_of effects) t refl parts own)
  used_rows by parts own u is = absurd cc

  mutual
    unfolding nodes_of

    pub uses_rows : {names : Named Ground} {effects : EffectSet} {e : Expr} {t : Ground} {inside : List Ground} (flag : Bool) (d : HasType functions tables names effects e t inside) → Each HasRows (nodes_of flag d) → Each UsesRows (nodes_of flag d)
    uses_rows flag (plain h ts is have by) all = (used_rows by (parts_rows flag have all.1) all.0, all_uses flag have all.1)
    uses_rows flag (lambda l params own a is named moves body local) all = (uses_none, uses_rows flag body all.1)
    uses_rows flag (var x d rest a first last is one next) all = (uses_none, two_uses (nodes_of flag one) (nodes_of flag next) (uses_rows flag one) (uses_rows flag next) all.1)
    uses_rows flag (switch d cases row tags ts first bodies is one have same made local) all = (uses_none, two_uses (nodes_of flag one) (case_nodes flag have) (uses_rows flag one) (cases_uses flag have) all.1)
    uses_rows flag (switch_open d cases last rest row tags ts first bodies inside is one have same next made local) all =
        (uses_none, two_uses (nodes_of flag one) (case_nodes flag have ++ nodes_of flag next) (uses_rows flag one) (two_uses (case_nodes flag have) (nodes_of flag next) (cases_uses flag have) (uses_rows flag next)) all.1)
    uses_rows flag (for_list x d body a c first inside is one next) all = (uses_none, two_uses (nodes_of flag one) (nodes_of flag next) (uses_rows flag one) (uses_rows flag next) all.1)
    uses_rows flag (for_table x rows body a c first inside is one next) all = (uses_none, two_uses (nodes_of flag one) (nodes_of flag next) (uses_rows flag one) (uses_rows flag next) all.1)
    uses_rows flag (query keys body a inside is one sorted scans own) all = (uses_none, uses_rows true one all.1)
    uses_rows flag (update change is changes writes) all = (uses_none, change_uses changes all.1)
    uses_rows flag (delete change is changes writes) all = (uses_none, change_uses changes all.1)

    all_uses : {names : Named Ground} {effects : EffectSet} {es : List Expr} {ts inside : List Ground} (flag : Bool) (d : HaveTypes functions tables names effects es ts inside) → Each HasRows (each_nodes flag d) → Each UsesRows (each_nodes flag d)
    all_uses flag none all = tt
    all_uses flag (more inside rest first others) all = two_uses (nodes_of flag first) (each_nodes flag others) (uses_rows flag first) (all_uses flag others) all

    cases_uses : {names : Named Ground} {effects : EffectSet} {cases : List Case} {ts : List Ground} {tags : Named Ground} {inside : List Ground} (flag : Bool) (d : HaveCases functions tables names effects cases ts tags inside) → Each HasRows (case_nodes flag d) → Each UsesRows (case_nodes flag d)
    cases_uses flag no_cases all = tt
    cases_uses flag (case_of a held inside rest is_held body others) all = two_uses (nodes_of flag body) (case_nodes flag others) (uses_rows flag body) (cases_uses flag others) all

    change_uses : {names : Named Ground} {change : ChangeExpr} {inside : List Ground} (d : IsChange functions tables names change inside) → Each HasRows (change_nodes d) → Each UsesRows (change_nodes d)
    change_uses (changed row sets ts cond rest has holds values named fields) all = two_uses (nodes_of true holds) (each_nodes true values) (uses_rows true holds) (all_uses true values) all
