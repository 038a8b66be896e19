-- What the readers of declarations find, and where they stop.
use Rattle.std.proofs.Common.{ℕ, List, [], ◌∷◌, ◌++◌, Option, Some, None, refl, sym, ◌∙◌, append_assoc}
use Rattle.std.specs.Prelude.{codes}
use Rattle.std.proofs.lemmas.List.{append-nil}
use Rattle.lk_ast.specs.declared.declaration.ColumnDecl.{ColumnDecl}
use Rattle.lk_ast.specs.declared.declaration.Decl.{Decl}
use Rattle.lk_ast.specs.declared.declaration.Decl.TheVariants as decl
use Rattle.lk_ast.specs.declared.declaration.FunDef.{FunDef}
use Rattle.lk_ast.specs.declared.signature.Sig.{Sig}
use Rattle.lk_ast.specs.declared.table.BaseKind.{BaseKind}
use Rattle.lk_ast.specs.declared.table.BaseKind.TheVariants as base
use Rattle.lk_ast.specs.declared.token.Token.{Token}
use Rattle.lk_read.specs.Kinds.{IsSign, IsTag}
use Rattle.lk_read.specs.Reader.{many, finish}
use Rattle.lk_read.proofs.KindLaws.{a_sign, a_word, a_tag, a_name}
use Rattle.lk_read.proofs.Laws.{Reads, Grows, Then, Next, Just, Made, weaken, bind-reads, when-reads, give-reads, many-reads, eat-reads, made-reads}
use Rattle.lk_read.proofs.Moves.{moved, cons, after, Close, closed}
use Rattle.lk_read.proofs.Top.{finish-reads}
use Rattle.lk_rows.specs.Reading.{comma}
use Rattle.lk_rows.specs.Types.{IsType}
use Rattle.lk_rows.proofs.Sound.{type_at-reads}
use Rattle.lk_grammar.specs.Expressions.{IsParams, IsPlace, IsBlock}
use Rattle.lk_grammar.specs.Programs.{column_of, table_of, sig_of, function_of, program_of, IsBase, IsColumn, IsColumns, IsSig, IsDefinition, IsFun, IsFuns, IsDecl, IsDecls, IsProgram}
use Rattle.lk_grammar.specs.Reading.{expr_at}
use Rattle.lk_grammar.specs.ReadingPrograms.{base_named, read_base, read_column, columns_turn, columns_with, table_with, sig_with, definition_with, signed_with, fun_with, funs_turn, fun_next, mutual_with, plain_with, decl_with, decls_turn, decl_next, decls_with, program_at}
use Rattle.lk_grammar.proofs.Sound.{expr_at-reads}
use Rattle.lk_grammar.proofs.SoundNames.{params-reads, place-reads}
use Rattle.lk_grammar.proofs.SoundPrimaries.{block-reads}

-- ---- tables

named-reads : (name : List ℕ) (kind : BaseKind) → ((t : Token) → IsTag name t → IsBase (t ∷ []) kind) → Reads (base_named name kind) IsBase
unfolding base_named
named-reads name kind makes = weaken _ IsBase (eat-reads _ _ (a_tag name) (λ t. give-reads kind)) (λ w x h. moved IsBase (h.is ∙ cons h.t h.after.0) h.after.1 (makes h.t h.test))

pub base-reads : Reads read_base IsBase
unfolding read_base
base-reads = when-reads _ _ _ IsBase (named-reads (codes "Int") base.Int IsBase.int) (when-reads _ _ _ IsBase (named-reads (codes "Bool") base.Bool IsBase.bool) (named-reads (codes "String") base.Text IsBase.text))

pub column-reads : Reads read_column IsColumn
unfolding read_column
column-reads = weaken _ IsColumn (eat-reads _ _ a_name (λ l. eat-reads _ _ (a_sign (codes ":")) (λ c. made-reads read_base (column_of l) IsBase base-reads)))
    (λ w x h. let i = h.after in moved IsColumn (h.is ∙ cons h.t i.is) i.after.is (IsColumn.column h.t i.t h.test i.test i.after.of))

columns_turn-reads : (columns : List ColumnDecl) → Reads (columns_turn columns) (Grows IsColumns columns)
unfolding columns_turn
columns_turn-reads columns = weaken _ (Grows IsColumns columns) (eat-reads _ _ (a_sign (codes ",")) (λ s. made-reads read_column (λ (column : ColumnDecl). columns ++ column ∷ []) IsColumn column-reads))
    (λ w x h u q. moved IsColumns (after u h.is) h.after.is (IsColumns.next h.t q h.test h.after.of))

pub columns-reads : (n : ℕ) → Reads (columns_with n) IsColumns
unfolding columns_with
columns-reads n = weaken _ IsColumns (bind-reads _ _ IsColumn (λ column. Grows IsColumns (column ∷ [])) column-reads (λ column. many-reads comma columns_turn IsColumns columns_turn-reads n (column ∷ [])))
    (λ w x h. moved IsColumns h.is refl (h.snd h.u (IsColumns.first h.fst)))

table-reads : (n : ℕ) → Reads (table_with n) IsDecl
unfolding table_with
table-reads n = weaken _ IsDecl (eat-reads _ _ (a_word (codes "table")) (λ k. eat-reads _ _ a_name (λ x. eat-reads _ _ (a_word (codes "with")) (λ h. eat-reads _ _ (a_sign (codes "(")) (λ o. bind-reads _ _ IsColumns (λ columns. Next (IsSign (codes ")")) (λ c. Close (codes ";") (λ s. table_of x columns))) (columns-reads n) (λ columns.
    eat-reads _ _ (a_sign (codes ")")) (λ c. eat-reads _ _ (a_sign (codes ";")) (λ s. give-reads (table_of x columns)))))))))
    (λ w x f. let g = f.after in let h = g.after in let i = h.after in let j = i.after in let m = j.snd in let p = m.after in
    moved IsDecl (f.is ∙ cons f.t (g.is ∙ cons g.t (h.is ∙ cons h.t (i.is ∙ cons i.t (j.is ∙ after j.u (m.is ∙ cons m.t (p.is ∙ cons p.t p.after.0))))))) p.after.1 (IsDecl.table f.t g.t h.t i.t m.t p.t f.test g.test h.test i.test j.fst m.test p.test))

-- ---- functions

pub sig-reads : (n : ℕ) → Reads (sig_with n) IsSig
unfolding sig_with
sig-reads n = weaken _ IsSig (eat-reads _ _ (a_word (codes "sig")) (λ k. eat-reads _ _ a_name (λ x. eat-reads _ _ (a_sign (codes ":")) (λ c. bind-reads _ _ IsType (λ ty. Close (codes ";") (λ s. sig_of x ty)) (type_at-reads n) (λ ty. eat-reads _ _ (a_sign (codes ";")) (λ s. give-reads (sig_of x ty)))))))
    (λ w x f. let g = f.after in let h = g.after in let i = h.after in
    moved IsSig (f.is ∙ cons f.t (g.is ∙ cons g.t (h.is ∙ cons h.t (closed i)))) i.snd.after.1 (IsSig.sig f.t g.t h.t i.snd.t f.test g.test h.test i.fst i.snd.test))

pub definition-reads : (n : ℕ) (sig : Option Sig) → Reads (definition_with n sig) (IsDefinition sig)
unfolding definition_with
definition-reads n sig = weaken _ (IsDefinition sig) (eat-reads _ _ (a_word (codes "fun")) (λ k. eat-reads _ _ a_name (λ x. eat-reads _ _ (a_sign (codes "(")) (λ o. bind-reads _ _ IsParams (λ params. Next (IsSign (codes ")")) (λ c. Then IsPlace (λ place. Made (function_of x sig params place) IsBlock))) (params-reads n) (λ params.
    eat-reads _ _ (a_sign (codes ")")) (λ c. bind-reads _ _ IsPlace (λ place. Made (function_of x sig params place) IsBlock) place-reads (λ place. made-reads _ (function_of x sig params place) IsBlock (block-reads (expr_at n) (expr_at-reads n) n))))))))
    (λ w x f. let g = f.after in let h = g.after in let i = h.after in let j = i.snd in let m = j.after in
    moved (IsDefinition sig) (f.is ∙ cons f.t (g.is ∙ cons g.t (h.is ∙ cons h.t (i.is ∙ after i.u (j.is ∙ cons j.t m.is))))) m.snd.is (IsDefinition.define f.t g.t h.t j.t f.test g.test h.test i.fst j.test m.fst m.snd.of))

pub fun-reads : (n : ℕ) → Reads (fun_with n) IsFun
unfolding fun_with signed_with
fun-reads n = when-reads _ _ _ IsFun
    (weaken _ IsFun (bind-reads _ _ IsSig (λ sig. IsDefinition (Some sig)) (sig-reads n) (λ sig. definition-reads n (Some sig))) (λ w x h. moved IsFun h.is refl (IsFun.signed h.fst h.snd)))
    (weaken _ IsFun (definition-reads n None) (λ w x h. IsFun.plain h))

funs_turn-reads : (n : ℕ) (fs : List FunDef) → Reads (funs_turn n fs) (Grows IsFuns fs)
unfolding funs_turn
funs_turn-reads n fs = weaken _ (Grows IsFuns fs) (made-reads (fun_with n) (λ (f : FunDef). fs ++ f ∷ []) IsFun (fun-reads n)) (λ w x h u q. moved IsFuns refl h.is (IsFuns.next q h.of))

pub many_funs-reads : (n : ℕ) (f : FunDef) → Reads (many fun_next (funs_turn n) n (f ∷ [])) (Grows IsFuns (f ∷ []))
many_funs-reads n f = many-reads fun_next (funs_turn n) IsFuns (funs_turn-reads n) n (f ∷ [])

mutual-reads : (n : ℕ) → Reads (mutual_with n) IsDecl
unfolding mutual_with
mutual-reads n = weaken _ IsDecl (eat-reads _ _ (a_word (codes "mutual")) (λ k. eat-reads _ _ (a_sign (codes "{")) (λ o. bind-reads _ _ IsFun (λ f. Then (Grows IsFuns (f ∷ [])) (λ fs. Close (codes "}") (λ c. decl.Mutual fs))) (fun-reads n) (λ f.
    bind-reads _ _ (Grows IsFuns (f ∷ [])) (λ fs. Close (codes "}") (λ c. decl.Mutual fs)) (many_funs-reads n f) (λ fs. eat-reads _ _ (a_sign (codes "}")) (λ c. give-reads (decl.Mutual fs)))))))
    (λ w x f. let g = f.after in let h = g.after in let i = h.snd in
    moved IsDecl (f.is ∙ cons f.t (g.is ∙ cons g.t (h.is ∙ after h.u (closed i) ∙ sym (append_assoc h.u i.u (i.snd.t ∷ []))))) i.snd.after.1 (IsDecl.mutual_block f.t g.t i.snd.t f.test g.test (i.fst h.u (IsFuns.first h.fst)) i.snd.test))

-- ---- programs

pub decl-reads : (n : ℕ) → Reads (decl_with n) IsDecl
unfolding decl_with plain_with
decl-reads n = when-reads _ _ _ IsDecl (table-reads n) (when-reads _ _ _ IsDecl (mutual-reads n)
    (weaken _ IsDecl (made-reads (fun_with n) decl.Fun IsFun (fun-reads n)) (λ w x h. moved IsDecl refl h.is (IsDecl.function h.of))))

decls_turn-reads : (n : ℕ) (ds : List Decl) → Reads (decls_turn n ds) (Grows IsDecls ds)
unfolding decls_turn
decls_turn-reads n ds = weaken _ (Grows IsDecls ds) (made-reads (decl_with n) (λ (d : Decl). ds ++ d ∷ []) IsDecl (decl-reads n)) (λ w x h u q. moved IsDecls refl h.is (IsDecls.more q h.of))

pub many_decls-reads : (n : ℕ) → Reads (many decl_next (decls_turn n) n []) (Grows IsDecls [])
many_decls-reads n = many-reads decl_next (decls_turn n) IsDecls (decls_turn-reads n) n []

pub decls-reads : (n : ℕ) → Reads (decls_with n) IsProgram
unfolding decls_with
decls-reads n = weaken _ IsProgram (made-reads _ program_of (Grows IsDecls []) (many_decls-reads n))
    (λ w x h. moved IsProgram refl h.is (IsProgram.program (h.of [] IsDecls.nil)))

pub program-reads : (n : ℕ) → Reads (program_at n) IsProgram
unfolding program_at
program-reads n = weaken _ IsProgram (bind-reads (decls_with n) (λ p. finish p) IsProgram Just (decls-reads n) (λ p. finish-reads p))
    (λ w x h. moved IsProgram (h.is ∙ after h.u h.snd.0 ∙ append-nil h.u) h.snd.1 h.fst)
