-- Which tokens are which program: a grammar by productions (Aho, Lam, Sethi and Ullman, Compilers, 2006, section 4.2), of a
-- language of the family of Links (Cooper, Lindley, Wadler and Yallop, Links: Web Programming Without Tiers, 2006). Names and
-- calls are read as they stand.
use Rattle.std.specs.Prelude.{List, [], ◌∷◌, ◌++◌, Option, Some, None, codes}
use Rattle.lk_ast.specs.declared.declaration.ColumnDecl.{ColumnDecl}
use Rattle.lk_ast.specs.declared.declaration.Decl.{Decl}
use Rattle.lk_ast.specs.declared.declaration.Decl.TheVariants as decl
use Rattle.lk_ast.specs.declared.declaration.FunDef.{FunDef}
use Rattle.lk_ast.specs.declared.declaration.Program.{Program}
use Rattle.lk_ast.specs.declared.place.Loc.{Loc}
use Rattle.lk_ast.specs.declared.place.Word.{Word}
use Rattle.lk_ast.specs.declared.signature.Sig.{Sig}
use Rattle.lk_ast.specs.declared.signature.SigType.{SigType}
use Rattle.lk_ast.specs.declared.table.BaseKind.{BaseKind}
use Rattle.lk_ast.specs.declared.table.BaseKind.TheVariants as base
use Rattle.lk_ast.specs.declared.token.Token.{Token}
use Rattle.lk_read.specs.Kinds.{IsSign, IsWord, IsTag, IsName, word_of}
use Rattle.lk_rows.specs.Types.{IsType}
use Rattle.lk_grammar.specs.Expressions.{IsParams, IsPlace, IsBlock}
use Rattle.lk_parts.specs.declared.part.Part.{Part}

abbrev pub column_of : Token → BaseKind → ColumnDecl
column_of l kind = record { label = word_of l; kind = kind }

abbrev pub table_of : Token → List ColumnDecl → Decl
table_of x columns = decl.Table (record { name = word_of x; columns = columns })

abbrev pub sig_of : Token → SigType → Sig
sig_of x ty = record { name = word_of x; ty = ty }

abbrev pub function_of : Token → Option Sig → List Word → Loc → Part → FunDef
function_of x sig params place b = record { name = word_of x; sig = sig; params = params; place = place; body = b.expr }

abbrev pub program_of : List Decl → Program
program_of decls = record { decls = decls }

-- Int, Bool, String
pub data IsBase : List Token → BaseKind → Type 0 where
  int : (t : Token) → IsTag (codes "Int") t → IsBase (t ∷ []) base.Int
  bool : (t : Token) → IsTag (codes "Bool") t → IsBase (t ∷ []) base.Bool
  text : (t : Token) → IsTag (codes "String") t → IsBase (t ∷ []) base.Text

-- l : Int, m : String
pub data IsColumn : List Token → ColumnDecl → Type 0 where
  column : (l c : Token) {w : List Token} {kind : BaseKind} → IsName l → IsSign (codes ":") c → IsBase w kind → IsColumn (l ∷ c ∷ w) (column_of l kind)

pub data IsColumns : List Token → List ColumnDecl → Type 0 where
  first : {w : List Token} {column : ColumnDecl} → IsColumn w column → IsColumns w (column ∷ [])
  next : {u v : List Token} (s : Token) {columns : List ColumnDecl} {column : ColumnDecl} → IsColumns u columns → IsSign (codes ",") s → IsColumn v column → IsColumns (u ++ s ∷ v) (columns ++ column ∷ [])

-- sig f : T;
pub data IsSig : List Token → Sig → Type 0 where
  sig : (k x c s : Token) {w : List Token} {ty : SigType} → IsWord (codes "sig") k → IsName x → IsSign (codes ":") c → IsType w ty → IsSign (codes ";") s → IsSig (k ∷ x ∷ c ∷ (w ++ s ∷ [])) (sig_of x ty)

-- fun f(x, y) client { e }, which has this signature
pub data IsDefinition (sig : Option Sig) : List Token → FunDef → Type 0 where
  define : (k x o c : Token) {u v w : List Token} {params : List Word} {place : Loc} {b : Part} → IsWord (codes "fun") k → IsName x → IsSign (codes "(") o → IsParams u params → IsSign (codes ")") c → IsPlace v place → IsBlock w b → IsDefinition sig (k ∷ x ∷ o ∷ (u ++ c ∷ (v ++ w))) (function_of x sig params place b)

-- a function, with its signature where it has one
pub data IsFun : List Token → FunDef → Type 0 where
  plain : {w : List Token} {f : FunDef} → IsDefinition None w f → IsFun w f
  signed : {u v : List Token} {sig : Sig} {f : FunDef} → IsSig u sig → IsDefinition (Some sig) v f → IsFun (u ++ v) f

pub data IsFuns : List Token → List FunDef → Type 0 where
  first : {w : List Token} {f : FunDef} → IsFun w f → IsFuns w (f ∷ [])
  next : {u v : List Token} {fs : List FunDef} {f : FunDef} → IsFuns u fs → IsFun v f → IsFuns (u ++ v) (fs ++ f ∷ [])

pub data IsDecl : List Token → Decl → Type 0 where
  -- table t with (l : Int);
  table : (k x h o c s : Token) {w : List Token} {columns : List ColumnDecl} → IsWord (codes "table") k → IsName x → IsWord (codes "with") h → IsSign (codes "(") o → IsColumns w columns → IsSign (codes ")") c → IsSign (codes ";") s → IsDecl (k ∷ x ∷ h ∷ o ∷ (w ++ c ∷ s ∷ [])) (table_of x columns)
  function : {w : List Token} {f : FunDef} → IsFun w f → IsDecl w (decl.Fun f)
  -- mutual { functions }
  mutual_block : (k o c : Token) {w : List Token} {fs : List FunDef} → IsWord (codes "mutual") k → IsSign (codes "{") o → IsFuns w fs → IsSign (codes "}") c → IsDecl (k ∷ o ∷ (w ++ c ∷ [])) (decl.Mutual fs)

pub data IsDecls : List Token → List Decl → Type 0 where
  nil : IsDecls [] []
  more : {u v : List Token} {ds : List Decl} {d : Decl} → IsDecls u ds → IsDecl v d → IsDecls (u ++ v) (ds ++ d ∷ [])

pub data IsProgram : List Token → Program → Type 0 where
  program : {w : List Token} {ds : List Decl} → IsDecls w ds → IsProgram w (program_of ds)
