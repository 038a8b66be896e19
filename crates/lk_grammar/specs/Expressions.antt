-- Which tokens are which part of an expression: a grammar by productions (Aho, Lam, Sethi and Ullman, Compilers, 2006,
-- section 4.2), of a language of the family of Links (Cooper, Lindley, Wadler and Yallop, Links: Web Programming Without
-- Tiers, 2006). Names and calls are read as they stand: which of them are functions of the program is another matter.
use Rattle.std.specs.Prelude.{◌≡◌, true, false, List, [], ◌∷◌, ◌++◌, Some, None, codes}
use Rattle.lk_ast.specs.declared.expression.Case.{Case}
use Rattle.lk_ast.specs.declared.expression.Expr.{Expr}
use Rattle.lk_ast.specs.declared.expression.PartExpr.{PartExpr}
use Rattle.lk_ast.specs.declared.expression.SortKey.{SortKey}
use Rattle.lk_ast.specs.declared.place.Loc.{Loc}
use Rattle.lk_ast.specs.declared.place.Loc.TheVariants as loc
use Rattle.lk_ast.specs.declared.place.Word.{Word}
use Rattle.lk_ast.specs.declared.token.Token.{Token}
use Rattle.lk_read.specs.Kinds.{IsSign, IsWord, IsName, IsAnyTag, word_of}
use Rattle.lk_parts.specs.Operators.{is_operator}
use Rattle.lk_parts.specs.Parts.{literal, named, wrapped, part_of, record_of, extended, list_of, bare_tag, unit_tag, tagged, prefixed, called, projected, var_statement, plain_statement, braced, negated, binary, takes_operator, takes_comparison, takes_call, if_form, list_loop, table_loop, where_form, insert_form, change_of, update_form, delete_form, switch_form, query_form, lambda_form, no_cases, case_of, last_case, goes_on, some_case}
use Rattle.lk_parts.specs.Starts.{begins}
use Rattle.lk_parts.specs.declared.operators.Level.TheVariants as level
use Rattle.lk_parts.specs.declared.part.Cases.{Cases}
use Rattle.lk_parts.specs.declared.part.Change.{Change}
use Rattle.lk_parts.specs.declared.part.Part.{Part}
use Rattle.lk_parts.specs.declared.part.Statement.{Statement}
use Rattle.lk_parts.specs.declared.starts.Start.TheVariants as start

-- ---- names

-- x, y
pub data IsNames : List Token → List Word → Type 0 where
  first : (x : Token) → IsName x → IsNames (x ∷ []) (word_of x ∷ [])
  next : {u : List Token} {xs : List Word} (s x : Token) → IsNames u xs → IsSign (codes ",") s → IsName x → IsNames (u ++ s ∷ x ∷ []) (xs ++ word_of x ∷ [])

pub data IsParams : List Token → List Word → Type 0 where
  none : IsParams [] []
  some : {w : List Token} {xs : List Word} → IsNames w xs → IsParams w xs

-- the mark of a function, where it has one
pub data IsPlace : List Token → Loc → Type 0 where
  any : IsPlace [] loc.Any
  client : (t : Token) → IsWord (codes "client") t → IsPlace (t ∷ []) loc.Client
  server : (t : Token) → IsWord (codes "server") t → IsPlace (t ∷ []) loc.Server

-- l, or l desc
pub data IsKey : List Token → SortKey → Type 0 where
  rising : (l : Token) → IsName l → IsKey (l ∷ []) (record { label = word_of l; desc = false })
  falling : (l d : Token) → IsName l → IsWord (codes "desc") d → IsKey (l ∷ d ∷ []) (record { label = word_of l; desc = true })

pub data IsKeys : List Token → List SortKey → Type 0 where
  first : {w : List Token} {key : SortKey} → IsKey w key → IsKeys w (key ∷ [])
  next : {u w : List Token} (s : Token) {keys : List SortKey} {key : SortKey} → IsKeys u keys → IsSign (codes ",") s → IsKey w key → IsKeys (u ++ s ∷ w) (keys ++ key ∷ [])

-- nothing, or orderby (keys)
pub data IsOrder : List Token → List SortKey → Type 0 where
  none : IsOrder [] []
  some : (k o c : Token) {w : List Token} {keys : List SortKey} → IsWord (codes "orderby") k → IsSign (codes "(") o → IsKeys w keys → IsSign (codes ")") c → IsOrder (k ∷ o ∷ (w ++ c ∷ [])) keys

mutual
  -- ---- expressions, from the loosest operators to the tightest

  -- left-associative
  pub data IsExpr : List Token → Part → Type 0 where
    and_level : {w : List Token} {e : Part} → IsAnd w e → IsExpr w e
    disjunction : {u v : List Token} (s : Token) {a b : Part} → IsExpr u a → takes_operator a ≡ true → is_operator level.Or s ≡ true → IsAnd v b → IsExpr (u ++ s ∷ v) (binary level.Or a s b)

  pub data IsAnd : List Token → Part → Type 0 where
    comparison_level : {w : List Token} {e : Part} → IsComparison w e → IsAnd w e
    conjunction : {u v : List Token} (s : Token) {a b : Part} → IsAnd u a → takes_operator a ≡ true → is_operator level.And s ≡ true → IsComparison v b → IsAnd (u ++ s ∷ v) (binary level.And a s b)

  -- one comparison at most
  pub data IsComparison : List Token → Part → Type 0 where
    join_level : {w : List Token} {e : Part} → IsJoin w e → IsComparison w e
    comparison : {u v : List Token} (s : Token) {a b : Part} → IsJoin u a → takes_comparison a ≡ true → is_operator level.Comparison s ≡ true → IsJoin v b → IsComparison (u ++ s ∷ v) (binary level.Comparison a s b)

  -- right-associative
  pub data IsJoin : List Token → Part → Type 0 where
    sum_level : {w : List Token} {e : Part} → IsSum w e → IsJoin w e
    join : {u v : List Token} (s : Token) {a b : Part} → IsSum u a → takes_operator a ≡ true → is_operator level.Join s ≡ true → IsJoin v b → IsJoin (u ++ s ∷ v) (binary level.Join a s b)

  pub data IsSum : List Token → Part → Type 0 where
    product_level : {w : List Token} {e : Part} → IsProduct w e → IsSum w e
    sum : {u v : List Token} (s : Token) {a b : Part} → IsSum u a → takes_operator a ≡ true → is_operator level.Sum s ≡ true → IsProduct v b → IsSum (u ++ s ∷ v) (binary level.Sum a s b)

  pub data IsProduct : List Token → Part → Type 0 where
    unary_level : {w : List Token} {e : Part} → IsUnary w e → IsProduct w e
    product : {u v : List Token} (s : Token) {a b : Part} → IsProduct u a → takes_operator a ≡ true → is_operator level.Product s ≡ true → IsUnary v b → IsProduct (u ++ s ∷ v) (binary level.Product a s b)

  pub data IsUnary : List Token → Part → Type 0 where
    negation : (s : Token) {w : List Token} {e : Part} → IsSign (codes "-") s → IsUnary w e → IsUnary (s ∷ w) (negated s e)
    form : {w : List Token} {e : Part} → IsForm w e → IsUnary w e
    postfix : {w : List Token} {e : Part} → IsPostfix w e → IsUnary w e

  -- calls and fields
  pub data IsPostfix : List Token → Part → Type 0 where
    primary : {w : List Token} {e : Part} → IsPrimary w e → IsPostfix w e
    call : (o c : Token) {u w : List Token} {f : Part} {args : List Expr} → IsPostfix u f → takes_call f ≡ true → IsSign (codes "(") o → IsArgs w args → IsSign (codes ")") c → IsPostfix (u ++ o ∷ (w ++ c ∷ [])) (called f args c)
    project : (d l : Token) {u : List Token} {e : Part} → IsPostfix u e → IsSign (codes ".") d → IsName l → IsPostfix (u ++ d ∷ l ∷ []) (projected e l)

  pub data IsPrimary : List Token → Part → Type 0 where
    literal_token : (t : Token) → begins start.Literal t ≡ true → IsPrimary (t ∷ []) (literal t)
    name : (t : Token) → IsName t → IsPrimary (t ∷ []) (named t)
    -- T, T(), T(e)
    tag : (t : Token) → IsAnyTag t → IsPrimary (t ∷ []) (bare_tag t)
    tag_unit : (t o c : Token) → IsAnyTag t → IsSign (codes "(") o → IsSign (codes ")") c → IsPrimary (t ∷ o ∷ c ∷ []) (unit_tag t c)
    tag_of : (t o c : Token) {w : List Token} {e : Part} → IsAnyTag t → IsSign (codes "(") o → IsExpr w e → IsSign (codes ")") c → IsPrimary (t ∷ o ∷ (w ++ c ∷ [])) (tagged t e c)
    -- (), (e)
    unit : (o c : Token) → IsSign (codes "(") o → IsSign (codes ")") c → IsPrimary (o ∷ c ∷ []) (record_of o [] c)
    paren : (o c : Token) {w : List Token} {e : Part} → IsSign (codes "(") o → IsExpr w e → IsSign (codes ")") c → IsPrimary (o ∷ (w ++ c ∷ [])) (wrapped o e c)
    -- (l = e, m = d), (l = e | r)
    fields : (o c : Token) {w : List Token} {parts : List PartExpr} → IsSign (codes "(") o → IsParts w parts → IsSign (codes ")") c → IsPrimary (o ∷ (w ++ c ∷ [])) (record_of o parts c)
    extension : (o b c : Token) {u w : List Token} {parts : List PartExpr} {r : Part} → IsSign (codes "(") o → IsParts u parts → IsSign (codes "|") b → IsExpr w r → IsSign (codes ")") c → IsPrimary (o ∷ (u ++ b ∷ (w ++ c ∷ []))) (extended o parts r c)
    -- [e, d]
    list : (o c : Token) {w : List Token} {items : List Expr} → IsSign (codes "[") o → IsArgs w items → IsSign (codes "]") c → IsPrimary (o ∷ (w ++ c ∷ [])) (list_of o items c)
    block : {w : List Token} {e : Part} → IsBlock w e → IsPrimary w e
    -- print(e) and the like
    prefix : (k o c : Token) {w : List Token} {e : Part} → begins start.Prefix k ≡ true → IsSign (codes "(") o → IsExpr w e → IsSign (codes ")") c → IsPrimary (k ∷ o ∷ (w ++ c ∷ [])) (prefixed k e c)

  -- ---- what stands between brackets

  pub data IsArgs : List Token → List Expr → Type 0 where
    no_args : IsArgs [] []
    some_args : {w : List Token} {es : List Expr} → IsSome w es → IsArgs w es

  pub data IsSome : List Token → List Expr → Type 0 where
    first_arg : {w : List Token} {e : Part} → IsExpr w e → IsSome w (e.expr ∷ [])
    next_arg : {u v : List Token} (s : Token) {es : List Expr} {e : Part} → IsSome u es → IsSign (codes ",") s → IsExpr v e → IsSome (u ++ s ∷ v) (es ++ e.expr ∷ [])

  pub data IsParts : List Token → List PartExpr → Type 0 where
    first_part : {w : List Token} {part : PartExpr} → IsPart w part → IsParts w (part ∷ [])
    next_part : {u v : List Token} (s : Token) {parts : List PartExpr} {part : PartExpr} → IsParts u parts → IsSign (codes ",") s → IsPart v part → IsParts (u ++ s ∷ v) (parts ++ part ∷ [])

  -- l = e
  pub data IsPart : List Token → PartExpr → Type 0 where
    set : (l q : Token) {w : List Token} {e : Part} → IsName l → IsSign (codes "=") q → IsExpr w e → IsPart (l ∷ q ∷ w) (part_of (word_of l) e)

  pub data IsBlock : List Token → Part → Type 0 where
    braces : (o c : Token) {u v : List Token} {ss : List Statement} {e : Part} → IsSign (codes "{") o → IsStatements u ss → IsExpr v e → IsSign (codes "}") c → IsBlock (o ∷ (u ++ (v ++ c ∷ []))) (braced o ss e c)

  pub data IsStatements : List Token → List Statement → Type 0 where
    nil : IsStatements [] []
    let_in : {u v : List Token} (k x q s : Token) {ss : List Statement} {e : Part} → IsStatements u ss → IsWord (codes "var") k → IsName x → IsSign (codes "=") q → IsExpr v e → IsSign (codes ";") s → IsStatements (u ++ k ∷ x ∷ q ∷ (v ++ s ∷ [])) (ss ++ var_statement k x e ∷ [])
    plain : {u v : List Token} (s : Token) {ss : List Statement} {e : Part} → IsStatements u ss → IsExpr v e → IsSign (codes ";") s → IsStatements (u ++ (v ++ s ∷ [])) (ss ++ plain_statement e ∷ [])

  -- ---- forms

  pub data IsForm : List Token → Part → Type 0 where
    -- if (c) d else e
    conditional : (k o c l : Token) {t u v : List Token} {a d e : Part} → IsWord (codes "if") k → IsSign (codes "(") o → IsExpr t a → IsSign (codes ")") c → IsExpr u d → IsWord (codes "else") l → IsExpr v e → IsForm (k ∷ o ∷ (t ++ c ∷ (u ++ l ∷ v))) (if_form k a d e)
    -- for (x <- e) d
    for_list : (k o x s c : Token) {u v : List Token} {e d : Part} → IsWord (codes "for") k → IsSign (codes "(") o → IsName x → IsSign (codes "<-") s → IsExpr u e → IsSign (codes ")") c → IsExpr v d → IsForm (k ∷ o ∷ x ∷ s ∷ (u ++ c ∷ v)) (list_loop k x e d)
    -- for (x <-- t) d
    for_table : (k o x s t c : Token) {v : List Token} {d : Part} → IsWord (codes "for") k → IsSign (codes "(") o → IsName x → IsSign (codes "<--") s → IsName t → IsSign (codes ")") c → IsExpr v d → IsForm (k ∷ o ∷ x ∷ s ∷ t ∷ c ∷ v) (table_loop k x t d)
    -- where (c) e
    where_holds : (k o c : Token) {u v : List Token} {a e : Part} → IsWord (codes "where") k → IsSign (codes "(") o → IsExpr u a → IsSign (codes ")") c → IsExpr v e → IsForm (k ∷ o ∷ (u ++ c ∷ v)) (where_form k a e)
    -- insert t values e
    insert : (k t s : Token) {v : List Token} {e : Part} → IsWord (codes "insert") k → IsName t → IsWord (codes "values") s → IsExpr v e → IsForm (k ∷ t ∷ s ∷ v) (insert_form k t e)
    -- update (x <-- t) where (c) set (l = e, m = d)
    update : (k h o c : Token) {v w : List Token} {change : Change} {sets : List PartExpr} → IsWord (codes "update") k → IsChange v change → IsWord (codes "set") h → IsSign (codes "(") o → IsParts w sets → IsSign (codes ")") c → IsForm (k ∷ (v ++ h ∷ o ∷ (w ++ c ∷ []))) (update_form k change sets c)
    -- delete (x <-- t) where (c)
    delete : (k : Token) {v : List Token} {change : Change} → IsWord (codes "delete") k → IsChange v change → IsForm (k ∷ v) (delete_form k change)
    -- switch (e) { cases }
    switch : (k o c b d : Token) {u v : List Token} {e : Part} {cases : Cases} → IsWord (codes "switch") k → IsSign (codes "(") o → IsExpr u e → IsSign (codes ")") c → IsSign (codes "{") b → IsCases v cases → some_case cases ≡ true → IsSign (codes "}") d → IsForm (k ∷ o ∷ (u ++ c ∷ b ∷ (v ++ d ∷ []))) (switch_form k e cases d)
    -- query orderby (l, m desc) { e }
    query : (k : Token) {u v : List Token} {keys : List SortKey} {b : Part} → IsWord (codes "query") k → IsOrder u keys → IsBlock v b → IsForm (k ∷ (u ++ v)) (query_form k keys b)
    -- fun (x, y) client { e }
    lambda : (k o c : Token) {u v w : List Token} {params : List Word} {place : Loc} {b : Part} → IsWord (codes "fun") k → IsSign (codes "(") o → IsParams u params → IsSign (codes ")") c → IsPlace v place → IsBlock w b → IsForm (k ∷ o ∷ (u ++ c ∷ (v ++ w))) (lambda_form k params place b)

  -- (x <-- t) where (c)
  pub data IsChange : List Token → Change → Type 0 where
    rows : (o x s t c h p q : Token) {w : List Token} {a : Part} → IsSign (codes "(") o → IsName x → IsSign (codes "<--") s → IsName t → IsSign (codes ")") c → IsWord (codes "where") h → IsSign (codes "(") p → IsExpr w a → IsSign (codes ")") q → IsChange (o ∷ x ∷ s ∷ t ∷ c ∷ h ∷ p ∷ (w ++ q ∷ [])) (change_of x t a q)

  -- case T(x) -> e case T -> e case x -> e, the last one at the end
  pub data IsCases : List Token → Cases → Type 0 where
    no_case : IsCases [] no_cases
    next_case : {u v : List Token} {cases : Cases} {case : Case} → IsCases u cases → goes_on cases ≡ true → IsCase v case → IsCases (u ++ v) (record { list = cases.list ++ case ∷ []; last = None })
    final_case : {u w : List Token} (k x a : Token) {cases : Cases} {e : Part} → IsCases u cases → goes_on cases ≡ true → IsWord (codes "case") k → IsName x → IsSign (codes "->") a → IsExpr w e → IsCases (u ++ k ∷ x ∷ a ∷ w) (record { list = cases.list; last = Some (last_case x e) })

  pub data IsCase : List Token → Case → Type 0 where
    named_case : (k t o x c a : Token) {w : List Token} {e : Part} → IsWord (codes "case") k → IsAnyTag t → IsSign (codes "(") o → IsName x → IsSign (codes ")") c → IsSign (codes "->") a → IsExpr w e → IsCase (k ∷ t ∷ o ∷ x ∷ c ∷ a ∷ w) (case_of t (Some (word_of x)) e)
    unit_case : (k t a : Token) {w : List Token} {e : Part} → IsWord (codes "case") k → IsAnyTag t → IsSign (codes "->") a → IsExpr w e → IsCase (k ∷ t ∷ a ∷ w) (case_of t None e)
