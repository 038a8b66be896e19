-- Reading declarations and programs.
use Rattle.std.specs.Prelude.{ℕ, Bool, true, ◌||◌, List, [], ◌∷◌, ◌++◌, Option, Some, None, codes}
use Rattle.lk_ast.specs.declared.declaration.ColumnDecl.{ColumnDecl}
use Rattle.lk_ast.specs.declared.declaration.Decl.{Decl}
use Rattle.lk_ast.specs.declared.declaration.Decl.TheVariants as decl
use Rattle.lk_ast.specs.declared.declaration.FunDef.{FunDef}
use Rattle.lk_ast.specs.declared.declaration.Program.{Program}
use Rattle.lk_ast.specs.declared.signature.Sig.{Sig}
use Rattle.lk_ast.specs.declared.table.BaseKind.{BaseKind}
use Rattle.lk_ast.specs.declared.table.BaseKind.TheVariants as base
use Rattle.lk_ast.specs.declared.token.Token.{Token}
use Rattle.lk_read.specs.Kinds.{is_word, is_tag, is_name}
use Rattle.lk_read.specs.Reader.{Reader, give, bind, when, eat, many, finish}
use Rattle.lk_rows.specs.Reading.{comma, type_at}
use Rattle.lk_grammar.specs.Programs.{column_of, table_of, sig_of, function_of, program_of}
use Rattle.lk_grammar.specs.Reading.{skip_sign, skip_word, params_with, read_place, block_with, expr_at}

-- ---- tables

unfoldable pub base_named : List ℕ → BaseKind → Reader BaseKind
base_named name kind = eat (is_tag name) (λ t. give kind)

unfoldable pub read_base : Reader BaseKind
read_base = when (is_tag (codes "Int")) (base_named (codes "Int") base.Int)
    (when (is_tag (codes "Bool")) (base_named (codes "Bool") base.Bool) (base_named (codes "String") base.Text))

unfoldable pub read_column : Reader ColumnDecl
read_column = eat is_name (λ l. skip_sign (codes ":") (bind read_base (λ kind. give (column_of l kind))))

unfoldable pub columns_turn : List ColumnDecl → Reader (List ColumnDecl)
columns_turn columns = skip_sign (codes ",") (bind read_column (λ column. give (columns ++ column ∷ [])))

unfoldable pub columns_with : ℕ → Reader (List ColumnDecl)
columns_with n = bind read_column (λ column. many comma columns_turn n (column ∷ []))

unfoldable pub table_with : ℕ → Reader Decl
table_with n = skip_word (codes "table") (eat is_name (λ x. skip_word (codes "with") (skip_sign (codes "(") (bind (columns_with n) (λ columns. skip_sign (codes ")") (skip_sign (codes ";") (give (table_of x columns))))))))

-- ---- functions

unfoldable pub sig_with : ℕ → Reader Sig
sig_with n = skip_word (codes "sig") (eat is_name (λ x. skip_sign (codes ":") (bind (type_at n) (λ ty. skip_sign (codes ";") (give (sig_of x ty))))))

unfoldable pub definition_with : ℕ → Option Sig → Reader FunDef
definition_with n sig = skip_word (codes "fun") (eat is_name (λ x. skip_sign (codes "(") (bind (params_with n) (λ params. skip_sign (codes ")") (bind read_place (λ place. bind (block_with (expr_at n) n) (λ b. give (function_of x sig params place b))))))))

unfoldable pub signed_with : ℕ → Reader FunDef
signed_with n = bind (sig_with n) (λ sig. definition_with n (Some sig))

unfoldable pub fun_with : ℕ → Reader FunDef
fun_with n = when (is_word (codes "sig")) (signed_with n) (definition_with n None)

unfoldable pub funs_turn : ℕ → List FunDef → Reader (List FunDef)
funs_turn n fs = bind (fun_with n) (λ f. give (fs ++ f ∷ []))

-- whether a function comes next, whatever is read so far
abbrev pub is_fun : Token → Bool
is_fun t = is_word (codes "sig") t || is_word (codes "fun") t

abbrev pub fun_next : List FunDef → Token → Bool
fun_next fs = is_fun

unfoldable pub mutual_with : ℕ → Reader Decl
mutual_with n = skip_word (codes "mutual") (skip_sign (codes "{") (bind (fun_with n) (λ f. bind (many fun_next (funs_turn n) n (f ∷ [])) (λ fs. skip_sign (codes "}") (give (decl.Mutual fs))))))

-- ---- programs

unfoldable pub plain_with : ℕ → Reader Decl
plain_with n = bind (fun_with n) (λ f. give (decl.Fun f))

unfoldable pub decl_with : ℕ → Reader Decl
decl_with n = when (is_word (codes "table")) (table_with n) (when (is_word (codes "mutual")) (mutual_with n) (plain_with n))

unfoldable pub decls_turn : ℕ → List Decl → Reader (List Decl)
decls_turn n ds = bind (decl_with n) (λ d. give (ds ++ d ∷ []))

-- whether a token is left
abbrev pub decl_next : List Decl → Token → Bool
decl_next ds t = true

unfoldable pub decls_with : ℕ → Reader Program
decls_with n = bind (many decl_next (decls_turn n) n []) (λ ds. give (program_of ds))

-- a program, and no token behind it
unfoldable pub program_at : ℕ → Reader Program
program_at n = bind (decls_with n) (λ p. finish p)
