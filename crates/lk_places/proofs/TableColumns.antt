-- Each table of a program of a text has a column, since the grammar asks for one.
use Rattle.std.proofs.Common.{sym, subst, List, [], ◌∷◌, ◌++◌, map}
use Rattle.std.specs.List.{flat_map}
use Rattle.std.specs.Prelude.{◌≢◌}
use Rattle.lk_ast.specs.Tables.{EachHasColumns, HaveColumns, tables_in}
use Rattle.lk_ast.specs.declared.declaration.ColumnDecl.{ColumnDecl}
use Rattle.lk_ast.specs.declared.declaration.Decl.{Decl}
use Rattle.lk_ast.specs.declared.declaration.Decl.TheVariants.{Table, Fun, Mutual}
use Rattle.lk_ast.specs.declared.declaration.Program.{Program}
use Rattle.lk_ast.specs.declared.token.Token.{Token}
use Rattle.lk_grammar.specs.Programs.{IsColumns, IsDecl, IsDecls, IsProgram}
use Rattle.lk_places.specs.Law.{ColumnsLaw}
use Rattle.lk_scope.specs.Scoped.{scoped_decl, scoped_program}

some : (columns : List ColumnDecl) (column : ColumnDecl) → columns ++ column ∷ [] ≢ []
some [] column is = cc
some (c ∷ columns) column is = cc

columns_there : {w : List Token} {columns : List ColumnDecl} → IsColumns w columns → columns ≢ []
columns_there (IsColumns.first {column = column} d) = some [] column
columns_there (IsColumns.next s {columns = columns} {column = column} ds sign d) = some columns column

-- the tables of declarations, as they are where names are resolved
abbrev Have : List Decl → Type 0
Have ds = EachHasColumns (flat_map tables_in (map scoped_decl ds))

behind : (ds : List Decl) (d : Decl) → Have ds → Have (d ∷ []) → Have (ds ++ d ∷ [])
behind [] d all one = one
behind (Table table ∷ ds) d all one = (all.0, behind ds d all.1 one)
behind (Fun f ∷ ds) d all one = behind ds d all one
behind (Mutual fs ∷ ds) d all one = behind ds d all one

decl_has : {w : List Token} {d : Decl} → IsDecl w d → Have (d ∷ [])
decl_has (IsDecl.table k x h o c s a b e f columns i j) = (columns_there columns, tt)
decl_has (IsDecl.function d) = tt
decl_has (IsDecl.mutual_block k o c h i d j) = tt

decls_have : {w : List Token} {ds : List Decl} → IsDecls w ds → Have ds
decls_have IsDecls.nil = tt
decls_have (IsDecls.more {ds = ds} {d = d} before one) = behind ds d (decls_have before) (decl_has one)

program_has : {w : List Token} {tree : Program} → IsProgram w tree → HaveColumns (scoped_program tree)
program_has (IsProgram.program d) = decls_have d

pub columns_law : ColumnsLaw
columns_law text program is = subst HaveColumns (sym is.names) (program_has is.is)
