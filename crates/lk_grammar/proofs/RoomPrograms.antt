-- Room for one more than the tokens suffices for a program.
use Rattle.std.proofs.Common.{ℕ, List, [], ◌∷◌, ◌++◌, Option, Some, None, arith}
use Rattle.std.specs.Prelude.{codes}
use Rattle.lk_ast.specs.declared.declaration.ColumnDecl.{ColumnDecl}
use Rattle.lk_ast.specs.declared.declaration.Decl.{Decl}
use Rattle.lk_ast.specs.declared.declaration.Decl.TheVariants as decl
use Rattle.lk_ast.specs.declared.declaration.FunDef.{FunDef}
use Rattle.lk_ast.specs.declared.signature.Sig.{Sig}
use Rattle.lk_ast.specs.declared.table.BaseKind.{BaseKind}
use Rattle.lk_ast.specs.declared.table.BaseKind.TheVariants as base
use Rattle.lk_read.proofs.Room.{Lasts, Eats, Shortens, shortens, bind-lasts, step-lasts, give-lasts, finish-lasts, when-lasts, many-lasts, bind-shortens, give-shortens, eat-eats, eat-shortens, when-eats, bind-eats}
use Rattle.lk_rows.specs.Reading.{comma}
use Rattle.lk_rows.proofs.Room.{type_at-lasts}
use Rattle.lk_rows.proofs.Sound.{type_at-reads}
use Rattle.lk_grammar.specs.Programs.{column_of, table_of, sig_of, function_of, program_of}
use Rattle.lk_grammar.specs.Reading.{block_with, expr_at}
use Rattle.lk_grammar.specs.ReadingPrograms.{base_named, read_base, read_column, columns_turn, columns_with, table_with, sig_with, definition_with, signed_with, fun_with, funs_turn, fun_next, mutual_with, plain_with, decl_with, decls_turn, decl_next, decls_with, program_at}
use Rattle.lk_grammar.proofs.Room.{expr_at-lasts, block-lasts, params-lasts, place-lasts}
use Rattle.lk_grammar.proofs.Sound.{expr_at-reads}
use Rattle.lk_grammar.proofs.SoundNames.{params-reads, place-reads}
use Rattle.lk_grammar.proofs.SoundPrimaries.{block-reads}
use Rattle.lk_grammar.proofs.SoundPrograms.{base-reads, column-reads, columns-reads, sig-reads, definition-reads, fun-reads, many_funs-reads, decl-reads, many_decls-reads, decls-reads}

-- ---- tables

named-lasts : (n : ℕ) (name : List ℕ) (kind : BaseKind) → Lasts n (base_named name kind)
unfolding base_named
named-lasts n name kind = step-lasts n _ _ (λ t. give-lasts n kind)

base-lasts : (n : ℕ) → Lasts n read_base
unfolding read_base
base-lasts n = when-lasts n _ _ _ (named-lasts n (codes "Int") base.Int) (when-lasts n _ _ _ (named-lasts n (codes "Bool") base.Bool) (named-lasts n (codes "String") base.Text))

column-lasts : (n : ℕ) → Lasts n read_column
unfolding read_column
column-lasts n = step-lasts n _ _ (λ l. step-lasts n _ _ (λ c. bind-lasts n _ _ (shortens _ base-reads) (base-lasts n) (λ kind. give-lasts n (column_of l kind))))

columns_turn-eats : (columns : List ColumnDecl) → Eats (columns_turn columns)
unfolding columns_turn
columns_turn-eats columns = eat-eats _ _ (λ s. bind-shortens _ _ (shortens _ column-reads) (λ column. give-shortens (columns ++ column ∷ [])))

columns_turn-lasts : (n : ℕ) (columns : List ColumnDecl) → Lasts n (columns_turn columns)
unfolding columns_turn
columns_turn-lasts n columns = step-lasts n _ _ (λ s. bind-lasts n _ _ (shortens _ column-reads) (column-lasts n) (λ column. give-lasts n (columns ++ column ∷ [])))

columns-lasts : (n : ℕ) → Lasts n (columns_with n)
unfolding columns_with
columns-lasts n = bind-lasts n _ _ (shortens _ column-reads) (column-lasts n) (λ column. many-lasts n comma columns_turn columns_turn-eats (columns_turn-lasts n) n (omega arith) (column ∷ []))

table-lasts : (n : ℕ) → Lasts n (table_with n)
unfolding table_with
table-lasts n = step-lasts n _ _ (λ k. step-lasts n _ _ (λ x. step-lasts n _ _ (λ h. step-lasts n _ _ (λ o. bind-lasts n _ _ (shortens _ (columns-reads n)) (columns-lasts n) (λ columns. step-lasts n _ _ (λ c. step-lasts n _ _ (λ s. give-lasts n (table_of x columns))))))))

-- ---- functions

sig-lasts : (n : ℕ) → Lasts n (sig_with n)
unfolding sig_with
sig-lasts n = step-lasts n _ _ (λ k. step-lasts n _ _ (λ x. step-lasts n _ _ (λ c. bind-lasts n _ _ (shortens _ (type_at-reads n)) (type_at-lasts n) (λ ty. step-lasts n _ _ (λ s. give-lasts n (sig_of x ty))))))

body-lasts : (n : ℕ) → Lasts n (block_with (expr_at n) n)
body-lasts n = block-lasts (expr_at n) (expr_at-reads n) n (expr_at-lasts n)

body-shortens : (n : ℕ) → Shortens (block_with (expr_at n) n)
body-shortens n = shortens _ (block-reads (expr_at n) (expr_at-reads n) n)

definition-lasts : (n : ℕ) (sig : Option Sig) → Lasts n (definition_with n sig)
unfolding definition_with
definition-lasts n sig = step-lasts n _ _ (λ k. step-lasts n _ _ (λ x. step-lasts n _ _ (λ o. bind-lasts n _ _ (shortens _ (params-reads n)) (params-lasts n) (λ params. step-lasts n _ _ (λ c.
    bind-lasts n _ _ (shortens _ place-reads) (place-lasts n) (λ place. bind-lasts n _ _ (body-shortens n) (body-lasts n) (λ b. give-lasts n (function_of x sig params place b))))))))

definition-eats : (n : ℕ) (sig : Option Sig) → Eats (definition_with n sig)
unfolding definition_with
definition-eats n sig = eat-eats _ _ (λ k. eat-shortens _ _ (λ x. eat-shortens _ _ (λ o. bind-shortens _ _ (shortens _ (params-reads n)) (λ params. eat-shortens _ _ (λ c.
    bind-shortens _ _ (shortens _ place-reads) (λ place. bind-shortens _ _ (body-shortens n) (λ b. give-shortens (function_of x sig params place b))))))))

sig-eats : (n : ℕ) → Eats (sig_with n)
unfolding sig_with
sig-eats n = eat-eats _ _ (λ k. eat-shortens _ _ (λ x. eat-shortens _ _ (λ c. bind-shortens _ _ (shortens _ (type_at-reads n)) (λ ty. eat-shortens _ _ (λ s. give-shortens (sig_of x ty))))))

fun-lasts : (n : ℕ) → Lasts n (fun_with n)
unfolding fun_with signed_with
fun-lasts n = when-lasts n _ _ _ (bind-lasts n _ _ (shortens _ (sig-reads n)) (sig-lasts n) (λ sig. definition-lasts n (Some sig))) (definition-lasts n None)

fun-eats : (n : ℕ) → Eats (fun_with n)
unfolding fun_with signed_with
fun-eats n = when-eats _ _ _ (bind-eats _ _ (sig-eats n) (λ sig. shortens _ (definition-reads n (Some sig)))) (definition-eats n None)

funs_turn-eats : (n : ℕ) (fs : List FunDef) → Eats (funs_turn n fs)
unfolding funs_turn
funs_turn-eats n fs = bind-eats _ _ (fun-eats n) (λ f. give-shortens (fs ++ f ∷ []))

funs_turn-lasts : (n : ℕ) (fs : List FunDef) → Lasts n (funs_turn n fs)
unfolding funs_turn
funs_turn-lasts n fs = bind-lasts n _ _ (shortens _ (fun-reads n)) (fun-lasts n) (λ f. give-lasts n (fs ++ f ∷ []))

mutual-lasts : (n : ℕ) → Lasts n (mutual_with n)
unfolding mutual_with
mutual-lasts n = step-lasts n _ _ (λ k. step-lasts n _ _ (λ o. bind-lasts n _ _ (shortens _ (fun-reads n)) (fun-lasts n) (λ f.
    bind-lasts n _ _ (shortens _ (many_funs-reads n f)) (many-lasts n fun_next (funs_turn n) (funs_turn-eats n) (funs_turn-lasts n) n (omega arith) (f ∷ [])) (λ fs. step-lasts n _ _ (λ c. give-lasts n (decl.Mutual fs))))))

-- ---- programs

decl-lasts : (n : ℕ) → Lasts n (decl_with n)
unfolding decl_with plain_with
decl-lasts n = when-lasts n _ _ _ (table-lasts n) (when-lasts n _ _ _ (mutual-lasts n) (bind-lasts n _ _ (shortens _ (fun-reads n)) (fun-lasts n) (λ f. give-lasts n (decl.Fun f))))

decl-eats : (n : ℕ) → Eats (decl_with n)
unfolding decl_with plain_with table_with mutual_with
decl-eats n = when-eats _ _ _
    (eat-eats _ _ (λ k. eat-shortens _ _ (λ x. eat-shortens _ _ (λ h. eat-shortens _ _ (λ o. bind-shortens _ _ (shortens _ (columns-reads n)) (λ columns. eat-shortens _ _ (λ c. eat-shortens _ _ (λ s. give-shortens (table_of x columns)))))))))
    (when-eats _ _ _
    (eat-eats _ _ (λ k. eat-shortens _ _ (λ o. bind-shortens _ _ (shortens _ (fun-reads n)) (λ f. bind-shortens _ _ (shortens _ (many_funs-reads n f)) (λ fs. eat-shortens _ _ (λ c. give-shortens (decl.Mutual fs)))))))
    (bind-eats _ _ (fun-eats n) (λ f. give-shortens (decl.Fun f))))

decls_turn-eats : (n : ℕ) (ds : List Decl) → Eats (decls_turn n ds)
unfolding decls_turn
decls_turn-eats n ds = bind-eats _ _ (decl-eats n) (λ d. give-shortens (ds ++ d ∷ []))

decls_turn-lasts : (n : ℕ) (ds : List Decl) → Lasts n (decls_turn n ds)
unfolding decls_turn
decls_turn-lasts n ds = bind-lasts n _ _ (shortens _ (decl-reads n)) (decl-lasts n) (λ d. give-lasts n (ds ++ d ∷ []))

decls-lasts : (n : ℕ) → Lasts n (decls_with n)
unfolding decls_with
decls-lasts n = bind-lasts n _ _ (shortens _ (many_decls-reads n)) (many-lasts n decl_next (decls_turn n) (decls_turn-eats n) (decls_turn-lasts n) n (omega arith) []) (λ ds. give-lasts n (program_of ds))

pub program-lasts : (n : ℕ) → Lasts n (program_at n)
unfolding program_at
program-lasts n = bind-lasts n (decls_with n) _ (shortens _ (decls-reads n)) (decls-lasts n) (λ p. finish-lasts n p)
