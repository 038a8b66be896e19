-- What is printed of declarations and programs is read as the same, but for their places.
use Rattle.std.proofs.Common.{◌≡◌, false, List, [], ◌∷◌, ◌++◌, Option, Some, None, map, refl, sym, ap, subst, ◌∙◌}
use Rattle.std.specs.Prelude.{codes}
use Rattle.std.specs.Option.{option_map}
use Rattle.lk_ast.specs.declared.declaration.ColumnDecl.{ColumnDecl}
use Rattle.lk_ast.specs.declared.declaration.Decl.{Decl}
use Rattle.lk_ast.specs.declared.declaration.Decl.TheVariants as decl
use Rattle.lk_ast.specs.declared.declaration.FunDef.{FunDef}
use Rattle.lk_ast.specs.declared.declaration.Program.{Program}
use Rattle.lk_ast.specs.declared.place.Word.{Word as Named}
use Rattle.lk_ast.specs.declared.signature.Sig.{Sig}
use Rattle.lk_ast.specs.declared.table.BaseKind.{BaseKind}
use Rattle.lk_ast.specs.declared.table.BaseKind.TheVariants as base
use Rattle.lk_ast.specs.declared.token.Token.{Token}
use Rattle.lk_ast.specs.declared.token.TokenKind.TheVariants.{Word, Tag, Sign}
use Rattle.lk_read.specs.Kinds.{word_of}
use Rattle.lk_grammar.specs.Programs.{column_of, table_of, sig_of, function_of, program_of, IsBase, IsColumn, IsColumns, IsSig, IsDefinition, IsFun, IsFuns, IsDecl, IsDecls, IsProgram}
use Rattle.lk_parts.specs.Parts.{is_nil}
use Rattle.lk_print.specs.Bare.{bare, bare_sig, bare_function, bare_column, bare_decl, bare_program}
use Rattle.lk_print.specs.Printed.{Kinds, joined, separated, in_round, in_braces, name_kind, names as names_kinds, place as place_kinds, form_of, type_of, base_kind, column, signature, function, declaration}
use Rattle.lk_print.proofs.Expressions.{GoodTokens, first, rest, left, right, name_word, params_each, block_kept}
use Rattle.lk_print.proofs.Goods.{Good, constant, good_append, good_round, good_braces, good_separated, good_joined}
use Rattle.lk_print.proofs.Lists.{Each, each_more, each_map, map_map, ReadsOne, commas, series}
use Rattle.lk_print.proofs.Meant.{Written, body_block}
use Rattle.lk_print.proofs.Primaries.{IsNamed, named_token, bare_name}
use Rattle.lk_print.proofs.Spelled.{Spelt, token, spelt_none, spelt_cons, spelt_append, spelt_so, spelt_as, spelt_round}
use Rattle.lk_print.proofs.Types.{KeepsType, type_kept}
use Rattle.lk_print.proofs.Params.{WrittenName, params_written, params_good, bound_same, place_written, place_good}
use Rattle.lk_scope.specs.Names.{no_names, bind_all}
use Rattle.lk_scope.specs.Scoped.{scoped, scoped_function, scoped_decl, scoped_program}

-- ---- tables

base_written : (k : BaseKind) → Spelt (base_kind k) (λ w. IsBase w k)
base_written base.Int = spelt_cons (λ at. spelt_none (IsBase.int (token at (Tag (codes "Int"))) refl))
base_written base.Bool = spelt_cons (λ at. spelt_none (IsBase.bool (token at (Tag (codes "Bool"))) refl))
base_written base.Text = spelt_cons (λ at. spelt_none (IsBase.text (token at (Tag (codes "String"))) refl))

base_good : (k : BaseKind) → Good (base_kind k)
base_good base.Int = constant refl Each.none
base_good base.Bool = constant refl Each.none
base_good base.Text = constant refl Each.none

abbrev WrittenColumn : ColumnDecl → Type 0
WrittenColumn c = IsNamed c.label.text

one_column : (c : ColumnDecl) → WrittenColumn c → Spelt (column c) (ReadsOne IsColumn bare_column (bare_column c))
one_column c h = spelt_cons (λ l. spelt_cons (λ s. spelt_so (base_written c.kind) (λ w d. record {
  x = column_of (token l (name_kind c.label)) c.kind;
  is = IsColumn.column (token l (name_kind c.label)) (token s (Sign (codes ":"))) (named_token l c.label.text h) refl d;
  same = (λ i. record { label = bare_name l c.label i; kind = c.kind });
})))

each_column : (cs : List ColumnDecl) → Each WrittenColumn cs → Each (λ c. Spelt (column c) (ReadsOne IsColumn bare_column (bare_column c))) cs
each_column [] Each.none = Each.none
each_column (c ∷ cs) (Each.also h hs) = Each.also (one_column c h) (each_column cs hs)

each_column_good : (cs : List ColumnDecl) → Each WrittenColumn cs → Each Good (map column cs)
each_column_good [] Each.none = Each.none
each_column_good (c ∷ cs) (Each.also h hs) = Each.also (Each.also h.good (constant refl (base_good c.kind))) (each_column_good cs hs)

-- what is printed of a declaration is read as it, under the names in scope
record KeepsDecl (d : Decl) : Type 0 where
  decl : Spelt (declaration d) (ReadsOne IsDecl (λ e. bare_decl (scoped_decl e)) (bare_decl d))
  good : Good (declaration d)

table_kept : (x : Named) (c : ColumnDecl) (cs : List ColumnDecl) → IsNamed x.text → Each WrittenColumn (c ∷ cs) → KeepsDecl (decl.Table (record { name = x; columns = c ∷ cs }))
table_kept x c cs h each = record {
  decl = spelt_cons (λ k. spelt_cons (λ at. spelt_cons (λ w. spelt_round (separated (map column (c ∷ cs))) (commas IsColumn IsColumns (λ w x d. IsColumns.first d) (λ u w s xs x d is e. IsColumns.next s d is e) bare_column bare_column column c cs (each_column (c ∷ cs) each)) (λ o q u m. spelt_cons (λ s. spelt_none (record {
    x = table_of (token at (name_kind x)) m.x;
    is = IsDecl.table (token k (Word (codes "table"))) (token at (name_kind x)) (token w (Word (codes "with"))) (token o (Sign (codes "("))) (token q (Sign (codes ")"))) (token s (Sign (codes ";"))) refl (named_token at x.text h) refl refl m.is refl refl;
    same = (λ i. decl.Table (record { name = bare_name at x i; columns = m.same i }));
  }))))));
  good = constant refl (Each.also h.good (constant refl (good_append (in_round (separated (map column (c ∷ cs)))) (good_round _ (good_separated _ (each_column_good (c ∷ cs) each))) (constant refl Each.none))));
}

any_table : (x : Named) (cs : List ColumnDecl) → is_nil cs ≡ false → IsNamed x.text → Each WrittenColumn cs → KeepsDecl (decl.Table (record { name = x; columns = cs }))
any_table x [] some h each = absurd cc
any_table x (c ∷ cs) some h each = table_kept x c cs h each

-- ---- functions

WrittenSig : Option Sig → Type 0
WrittenSig None = Unit {0}
WrittenSig (Some sig) = IsNamed sig.name.text × KeepsType sig.ty

-- what a function owes, whose names are by scope
record WrittenFun (f : FunDef) : Type 0 where
  name : IsNamed f.name.text
  sig : WrittenSig f.sig
  params : Each WrittenName f.params
  body : Written (bind_all f.params no_names) f.body

-- fun f(x, y) client { e }
abbrev definition : FunDef → Kinds
definition f = Word (codes "fun") ∷ name_kind f.name ∷ (in_round (names_kinds f.params) ++ (place_kinds f.place ++ in_braces (form_of f.body).inside))

abbrev meaning : FunDef → FunDef
meaning f = bare_function (scoped_function f)

definition_written : (f : FunDef) (s : Option Sig) → WrittenFun f → option_map bare_sig s ≡ option_map bare_sig f.sig → Spelt (definition f) (ReadsOne (IsDefinition s) meaning (bare_function f))
definition_written f s r signed = spelt_cons (λ k. spelt_cons (λ at. spelt_round (names_kinds f.params) (params_written f.params r.params) (λ o c u m. spelt_append (place_kinds f.place) (place_written f.place) (λ v p. spelt_so (body_block (bind_all f.params no_names) f.body r.body) (λ w b. record {
  x = function_of (token at (name_kind f.name)) s m.x f.place b.part;
  is = IsDefinition.define (token k (Word (codes "fun"))) (token at (name_kind f.name)) (token o (Sign (codes "("))) (token c (Sign (codes ")"))) refl (named_token at f.name.text r.name) refl m.is refl p b.is;
  same = (λ i. record { name = bare_name at f.name i; sig = signed i; params = m.same i; place = f.place; body = (ap (λ inner. bare (scoped b.part.expr inner)) (bound_same m.x f.params no_names m.same) ∙ b.same) i });
})))))

definition_good : (f : FunDef) → WrittenFun f → Good (definition f)
definition_good f r = constant refl (Each.also r.name.good (good_append (in_round (names_kinds f.params)) (good_round _ (params_good f.params r.params)) (good_append (place_kinds f.place) (place_good f.place) (good_braces _ r.body.good_inside))))

-- sig f : T;
sig_written : (sig : Sig) → IsNamed sig.name.text → KeepsType sig.ty → Spelt (signature (Some sig)) (ReadsOne IsSig bare_sig (bare_sig sig))
sig_written sig h r = spelt_cons (λ k. spelt_cons (λ at. spelt_cons (λ c. spelt_append (type_of sig.ty) r.type (λ u a. spelt_cons (λ s. spelt_none (record {
  x = sig_of (token at (name_kind sig.name)) a.x;
  is = IsSig.sig (token k (Word (codes "sig"))) (token at (name_kind sig.name)) (token c (Sign (codes ":"))) (token s (Sign (codes ";"))) refl (named_token at sig.name.text h) refl a.is refl;
  same = (λ i. record { name = bare_name at sig.name i; ty = a.same i });
}))))))

record KeepsFun (f : FunDef) : Type 0 where
  fun : Spelt (function f) (ReadsOne IsFun meaning (bare_function f))
  good : Good (function f)

function_kept : (f : FunDef) (s : Option Sig) → f.sig ≡ s → WrittenFun f → KeepsFun f
unfolding WrittenSig
function_kept f None is r = record {
  fun = spelt_as (ap (λ z. signature z ++ definition f) is) (spelt_so (definition_written f None r (ap (option_map bare_sig) (sym is))) (λ w d. record { x = d.x; is = IsFun.plain d.is; same = d.same }));
  good = subst (λ z. Good (signature z ++ definition f)) (sym is) (definition_good f r);
}
function_kept f (Some sig) is r =
    let h : IsNamed sig.name.text × KeepsType sig.ty = subst WrittenSig is r.sig in
    record {
      fun = spelt_as (ap (λ z. signature z ++ definition f) is) (spelt_append (signature (Some sig)) (sig_written sig h.0 h.1) (λ u a. spelt_so (definition_written f (Some a.x) r (ap (λ z. Some z) a.same ∙ ap (option_map bare_sig) (sym is))) (λ w d. record { x = d.x; is = IsFun.signed a.is d.is; same = d.same })));
      good = subst (λ z. Good (signature z ++ definition f)) (sym is) (good_append (signature (Some sig)) (constant refl (Each.also h.0.good (constant refl (good_append (type_of sig.ty) h.1.good (constant refl Each.none))))) (definition_good f r));
    }

fun_kept : (f : FunDef) → WrittenFun f → KeepsFun f
fun_kept f r = function_kept f f.sig refl r

fun_decl : (f : FunDef) → WrittenFun f → KeepsDecl (decl.Fun f)
fun_decl f r =
    let k = fun_kept f r in
    record { decl = spelt_so k.fun (λ w d. record { x = decl.Fun d.x; is = IsDecl.function d.is; same = ap (λ z. decl.Fun z) d.same }); good = k.good }

-- ---- functions that may call one another

each_fun : (fs : List FunDef) → Each WrittenFun fs → Each (λ f. Spelt (function f) (ReadsOne IsFun meaning (bare_function f))) fs
each_fun [] Each.none = Each.none
each_fun (f ∷ fs) (Each.also r rs) = Each.also (fun_kept f r).fun (each_fun fs rs)

each_fun_good : (fs : List FunDef) → Each WrittenFun fs → Each Good (map function fs)
each_fun_good [] Each.none = Each.none
each_fun_good (f ∷ fs) (Each.also r rs) = Each.also (fun_kept f r).good (each_fun_good fs rs)

funs_written : (f : FunDef) (fs : List FunDef) → Each WrittenFun (f ∷ fs) → Spelt (joined (map function (f ∷ fs))) (ReadsOne IsFuns (map meaning) (map bare_function (f ∷ fs)))
funs_written f fs (Each.also r rs) = spelt_append (function f) (fun_kept f r).fun (λ u a. spelt_so (series IsFun IsFuns (λ u w xs x d e. IsFuns.next d e) meaning bare_function function u (a.x ∷ []) (IsFuns.first a.is) fs (each_fun fs rs)) (λ w m. record { x = a.x ∷ m.zs; is = m.is; same = (λ i. a.same i ∷ m.same i) }))

mutual_decl : (f : FunDef) (fs : List FunDef) → Each WrittenFun (f ∷ fs) → KeepsDecl (decl.Mutual (f ∷ fs))
mutual_decl f fs each = record {
  decl = spelt_cons (λ k. spelt_cons (λ o. spelt_append (joined (map function (f ∷ fs))) (funs_written f fs each) (λ u m. spelt_cons (λ c. spelt_none (record {
    x = decl.Mutual m.x;
    is = IsDecl.mutual_block (token k (Word (codes "mutual"))) (token o (Sign (codes "{"))) (token c (Sign (codes "}"))) refl refl m.is refl;
    same = ap (λ z. decl.Mutual z) (map_map bare_function scoped_function m.x ∙ m.same);
  })))));
  good = constant refl (good_braces _ (good_joined _ (each_fun_good (f ∷ fs) each)));
}

any_mutual : (fs : List FunDef) → is_nil fs ≡ false → Each WrittenFun fs → KeepsDecl (decl.Mutual fs)
any_mutual [] some each = absurd cc
any_mutual (f ∷ fs) some each = mutual_decl f fs each

-- ---- every production

some_behind : {X : Type 0} (xs : List X) (x : X) → is_nil (xs ++ x ∷ []) ≡ false
some_behind [] x = refl
some_behind (y ∷ xs) x = refl

column_kept : {w : List Token} {c : ColumnDecl} → GoodTokens w → IsColumn w c → WrittenColumn c
column_kept g (IsColumn.column l c h i d) = name_word l (first g) h

columns_kept : {w : List Token} {cs : List ColumnDecl} → GoodTokens w → IsColumns w cs → Each WrittenColumn cs
columns_kept g (IsColumns.first d) = Each.also (column_kept g d) Each.none
columns_kept g (IsColumns.next {u} s d h e) = each_more _ _ (columns_kept (left u _ g) d) (column_kept (rest (right u _ g)) e)

columns_some : {w : List Token} {cs : List ColumnDecl} → IsColumns w cs → is_nil cs ≡ false
columns_some (IsColumns.first d) = refl
columns_some (IsColumns.next s d h e) = some_behind _ _

sig_kept : {w : List Token} {sig : Sig} → GoodTokens w → IsSig w sig → WrittenSig (Some sig)
unfolding WrittenSig
sig_kept g (IsSig.sig k x c s {w} h i j d l) = (name_word x (first (rest g)) i, type_kept (left w _ (rest (rest (rest g)))) d)

definition_kept : {w : List Token} {f : FunDef} (sig : Option Sig) → WrittenSig sig → GoodTokens w → IsDefinition sig w f → WrittenFun (scoped_function f)
definition_kept sig signed g (IsDefinition.define k x o c {u} {v} {w} {params} {place} {b} h i j d l e m) =
    let in_params = rest (rest (rest g)) in
    record { name = name_word x (first (rest g)) i; sig = signed; params = params_each (left u _ in_params) d; body = block_kept (right v _ (rest (right u _ in_params))) m (bind_all params no_names) }

no_sig : WrittenSig None
unfolding WrittenSig
no_sig = tt

function_of_kept : {w : List Token} {f : FunDef} → GoodTokens w → IsFun w f → WrittenFun (scoped_function f)
function_of_kept g (IsFun.plain d) = definition_kept None no_sig g d
function_of_kept g (IsFun.signed {u} {v} {sig} {f} d e) = definition_kept (Some sig) (sig_kept (left u _ g) d) (right u _ g) e

functions_kept : {w : List Token} {fs : List FunDef} → GoodTokens w → IsFuns w fs → Each (λ f. WrittenFun (scoped_function f)) fs
functions_kept g (IsFuns.first d) = Each.also (function_of_kept g d) Each.none
functions_kept g (IsFuns.next {u} d e) = each_more _ _ (functions_kept (left u _ g) d) (function_of_kept (right u _ g) e)

functions_some : {w : List Token} {fs : List FunDef} → IsFuns w fs → is_nil (map scoped_function fs) ≡ false
functions_some (IsFuns.first d) = refl
functions_some (IsFuns.next {fs} {f} d e) = mapped fs f
  where
    mapped : (fs : List FunDef) (f : FunDef) → is_nil (map scoped_function (fs ++ f ∷ [])) ≡ false
    mapped [] f = refl
    mapped (x ∷ fs) f = refl

decl_kept : {w : List Token} {d : Decl} → GoodTokens w → IsDecl w d → KeepsDecl (scoped_decl d)
decl_kept g (IsDecl.table k x h o c s {w} {columns} i j l m d n p) = any_table (word_of x) columns (columns_some d) (name_word x (first (rest g)) j) (columns_kept (left w _ (rest (rest (rest (rest g))))) d)
decl_kept g (IsDecl.function {w} {f} d) = fun_decl (scoped_function f) (function_of_kept g d)
decl_kept g (IsDecl.mutual_block k o c {w} {fs} h i d j) = any_mutual (map scoped_function fs) (functions_some d) (each_map scoped_function fs (functions_kept (left w _ (rest (rest g))) d))

decls_kept : {w : List Token} {ds : List Decl} → GoodTokens w → IsDecls w ds → Each (λ d. KeepsDecl (scoped_decl d)) ds
decls_kept g IsDecls.nil = Each.none
decls_kept g (IsDecls.more {u} d e) = each_more _ _ (decls_kept (left u _ g) d) (decl_kept (right u _ g) e)

-- ---- programs

each_decl : (ds : List Decl) → Each KeepsDecl ds → Each (λ d. Spelt (declaration d) (ReadsOne IsDecl (λ e. bare_decl (scoped_decl e)) (bare_decl d))) ds
each_decl [] Each.none = Each.none
each_decl (d ∷ ds) (Each.also r rs) = Each.also r.decl (each_decl ds rs)

each_decl_good : (ds : List Decl) → Each KeepsDecl ds → Each Good (map declaration ds)
each_decl_good [] Each.none = Each.none
each_decl_good (d ∷ ds) (Each.also r rs) = Each.also r.good (each_decl_good ds rs)

-- what is printed of this program is read as it, but for its places
pub record KeepsProgram (p : Program) : Type 0 where
  pub program : Spelt (joined (map declaration p.decls)) (λ w. (tree : Program) × IsProgram w tree × (bare_program (scoped_program tree) ≡ bare_program p))
  pub good : Each Good (map declaration p.decls)

program_of_decls : (ds : List Decl) → Each KeepsDecl ds → KeepsProgram (record { decls = ds })
program_of_decls ds each = record {
  program = spelt_so (series IsDecl IsDecls (λ u w xs x d e. IsDecls.more d e) (λ e. bare_decl (scoped_decl e)) bare_decl declaration [] [] IsDecls.nil ds (each_decl ds each)) (λ w m. (program_of m.zs, IsProgram.program m.is, ap (λ z. record { decls = z }) (map_map bare_decl scoped_decl m.zs ∙ m.same)));
  good = each_decl_good ds each;
}

pub program_kept : (w : List Token) (tree : Program) → GoodTokens w → IsProgram w tree → KeepsProgram (scoped_program tree)
program_kept w _ g (IsProgram.program {ds} d) = program_of_decls (map scoped_decl ds) (each_map scoped_decl ds (decls_kept g d))
