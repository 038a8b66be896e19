-- What the grammar derives is read, unless the room is too small: declarations and programs.
use Rattle.std.proofs.Common.{◌≡◌, ℕ, Bool, true, false, List, [], ◌∷◌, ◌++◌, Option, Some, None, Ok, refl, sym, ap, ◌∙◌, append_assoc}
use Rattle.std.specs.Prelude.{codes, ◌||◌}
use Rattle.std.proofs.lemmas.List.{append-nil}
use Rattle.lk_ast.specs.declared.declaration.ColumnDecl.{ColumnDecl}
use Rattle.lk_ast.specs.declared.declaration.Decl.{Decl}
use Rattle.lk_ast.specs.declared.declaration.FunDef.{FunDef}
use Rattle.lk_ast.specs.declared.declaration.Program.{Program}
use Rattle.lk_ast.specs.declared.signature.Sig.{Sig}
use Rattle.lk_ast.specs.declared.table.BaseKind.{BaseKind}
use Rattle.lk_ast.specs.declared.token.Token.{Token}
use Rattle.lk_read.specs.Kinds.{IsSign, IsWord, is_word}
use Rattle.lk_read.specs.Reader.{Reading, peek, bind, many, finish}
use Rattle.lk_read.proofs.Below.{◌⊑◌, bind-finds, eat-finds, give-finds, when-yes, when-no, many-ends, many-goes, bind-many-goes}
use Rattle.lk_read.proofs.KindLaws.{sign_sign, sign_word, word_word, tag_tag}
use Rattle.lk_read.proofs.Moves.{along, cons, here}
use Rattle.lk_read.proofs.Top.{finish_finds}
use Rattle.lk_rows.specs.Reading.{comma}
use Rattle.lk_rows.proofs.Complete.{type_finds, whole}
use Rattle.lk_grammar.specs.Programs.{IsBase, IsColumn, IsColumns, IsSig, IsDefinition, IsFun, IsFuns, IsDecl, IsDecls, IsProgram}
use Rattle.lk_grammar.specs.ReadingPrograms.{base_named, read_base, read_column, columns_turn, columns_with, table_with, sig_with, definition_with, signed_with, fun_with, funs_turn, is_fun, fun_next, mutual_with, plain_with, decl_with, decls_turn, decl_next, decls_with, program_at}
use Rattle.lk_grammar.proofs.Complete.{blocks_find}
use Rattle.lk_grammar.proofs.CompleteForms.{block_no_word}
use Rattle.lk_grammar.proofs.CompleteNames.{params_find, place_finds}

-- ---- tables

base_finds : {w : List Token} {kind : BaseKind} → IsBase w kind → (z : List Token) → read_base (w ++ z) ⊑ Ok (kind, z)
unfolding read_base base_named
base_finds (IsBase.int t h) z = let is = tag_tag (codes "Int") (codes "Int") t h in when-yes _ _ _ _ is (eat-finds _ _ _ _ is (give-finds _ _))
base_finds (IsBase.bool t h) z = let is = tag_tag (codes "Bool") (codes "Bool") t h in when-no _ _ _ _ (tag_tag (codes "Bool") (codes "Int") t h) (when-yes _ _ _ _ is (eat-finds _ _ _ _ is (give-finds _ _)))
base_finds (IsBase.text t h) z = let is = tag_tag (codes "String") (codes "String") t h in
    when-no _ _ _ _ (tag_tag (codes "String") (codes "Int") t h) (when-no _ _ _ _ (tag_tag (codes "String") (codes "Bool") t h) (eat-finds _ _ _ _ is (give-finds _ _)))

column_finds : {w : List Token} {column : ColumnDecl} → IsColumn w column → (z : List Token) → read_column (w ++ z) ⊑ Ok (column, z)
unfolding read_column
column_finds (IsColumn.column l c h k d) z = eat-finds _ _ _ _ h (eat-finds _ _ _ _ (here (codes ":") c k refl) (bind-finds _ _ _ (base_finds d z) (give-finds _ _)))

columns_find : {w : List Token} {columns : List ColumnDecl} → IsColumns w columns → (n : ℕ) (z : List Token) (v : Reading (List ColumnDecl)) → ((m : ℕ) → many comma columns_turn m columns z ⊑ v) → columns_with n (w ++ z) ⊑ v
unfolding columns_with columns_turn
columns_find (IsColumns.first d) n z v k = bind-finds _ _ _ (column_finds d z) (k n)
columns_find (IsColumns.next {u = u} {v = w} s {columns = columns} d h k) n z v more = let sep = here (codes ",") s h refl in
    along (columns_with n) v (sym (append_assoc u (s ∷ w) z))
    (columns_find d n (s ∷ (w ++ z)) v (many-goes comma _ columns (s ∷ (w ++ z)) sep (eat-finds _ _ _ _ sep (bind-finds _ _ _ (column_finds k z) (give-finds _ _))) more))

-- ---- functions

sig_finds : {w : List Token} {sig : Sig} → IsSig w sig → (n : ℕ) (z : List Token) → sig_with n (w ++ z) ⊑ Ok (sig, z)
unfolding sig_with
sig_finds (IsSig.sig k x c s {w = w} {ty = ty} h i j d m) n z = along (sig_with n) _ (cons k (cons x (cons c (sym (append_assoc w (s ∷ []) z)))))
    (eat-finds _ _ _ _ (word_word (codes "sig") (codes "sig") k h) (eat-finds _ _ _ _ i (eat-finds _ _ _ _ (here (codes ":") c j refl)
    (bind-finds _ _ _ (whole w ty (type_finds d) n (s ∷ z) (sign_sign (codes ";") (codes "->") s m)) (eat-finds _ _ _ _ (here (codes ";") s m refl) (give-finds _ _))))))

definition_finds : (sig : Option Sig) {w : List Token} {f : FunDef} → IsDefinition sig w f → (n : ℕ) (z : List Token) → definition_with n sig (w ++ z) ⊑ Ok (f, z)
unfolding definition_with
definition_finds sig (IsDefinition.define k x o c {u = u} {v = v} {w = w} h i j p q a b) n z =
    along (definition_with n sig) _ (cons k (cons x (cons o (sym (append_assoc u (c ∷ (v ++ w)) z ∙ ap (λ (y : List Token). u ++ c ∷ y) (append_assoc v w z))))))
    (eat-finds _ _ _ _ (word_word (codes "fun") (codes "fun") k h) (eat-finds _ _ _ _ i (eat-finds _ _ _ _ (here (codes "(") o j refl)
    (bind-finds _ _ _ (params_find p n c (v ++ (w ++ z)) q) (eat-finds _ _ _ _ (here (codes ")") c q refl)
    (bind-finds _ _ _ (place_finds a (w ++ z) (block_no_word b (codes "client") z) (block_no_word b (codes "server") z)) (bind-finds _ _ _ (blocks_find b n z) (give-finds _ _))))))))

definition_first : (sig : Option Sig) {w : List Token} {f : FunDef} → IsDefinition sig w f → (s : List ℕ) (z : List Token) → (k : Token) × (IsWord (codes "fun") k) × (peek (is_word s) (w ++ z) ≡ is_word s k) × (peek is_fun (w ++ z) ≡ is_fun k)
definition_first sig (IsDefinition.define k x o c h i j p q a b) s z = (k, h, refl, refl)

sig_first : {w : List Token} {sig : Sig} → IsSig w sig → (s : List ℕ) (z : List Token) → (k : Token) × (IsWord (codes "sig") k) × (peek (is_word s) (w ++ z) ≡ is_word s k) × (peek is_fun (w ++ z) ≡ is_fun k)
sig_first (IsSig.sig k x c e h i j d m) s z = (k, h, refl, refl)

fun_finds : {w : List Token} {f : FunDef} → IsFun w f → (n : ℕ) (z : List Token) → fun_with n (w ++ z) ⊑ Ok (f, z)
unfolding fun_with signed_with
fun_finds (IsFun.plain d) n z = let first = definition_first None d (codes "sig") z in
    when-no _ _ _ _ (first.2 ∙ word_word (codes "fun") (codes "sig") first.0 first.1) (definition_finds None d n z)
fun_finds (IsFun.signed {u = u} {v = v} {sig = sig} s d) n z = let first = sig_first s (codes "sig") (v ++ z) in
    along (fun_with n) _ (sym (append_assoc u v z))
    (when-yes _ _ _ _ (first.2 ∙ word_word (codes "sig") (codes "sig") first.0 first.1) (bind-finds _ _ _ (sig_finds s n (v ++ z)) (definition_finds (Some sig) d n z)))

-- a function begins with one of two words
word_fun : (k : Token) → IsWord (codes "fun") k → is_fun k ≡ true
word_fun k h = ap (λ (b : Bool). b || is_word (codes "fun") k) (word_word (codes "fun") (codes "sig") k h) ∙ word_word (codes "fun") (codes "fun") k h

word_sig : (k : Token) → IsWord (codes "sig") k → is_fun k ≡ true
word_sig k h = ap (λ (b : Bool). b || is_word (codes "fun") k) (word_word (codes "sig") (codes "sig") k h)

fun_is_next : {w : List Token} {f : FunDef} → IsFun w f → (z : List Token) → peek is_fun (w ++ z) ≡ true
fun_is_next (IsFun.plain d) z = let first = definition_first None d (codes "sig") z in first.3 ∙ word_fun first.0 first.1
fun_is_next (IsFun.signed {u = u} {v = v} s d) z = let first = sig_first s (codes "sig") (v ++ z) in
    ap (peek is_fun) (append_assoc u v z) ∙ first.3 ∙ word_sig first.0 first.1

fun_no_word : {w : List Token} {f : FunDef} → IsFun w f → (s : List ℕ) (z : List Token) → ((k : Token) → IsWord (codes "fun") k → is_word s k ≡ false) → ((k : Token) → IsWord (codes "sig") k → is_word s k ≡ false) → peek (is_word s) (w ++ z) ≡ false
fun_no_word (IsFun.plain d) s z a b = let first = definition_first None d s z in first.2 ∙ a first.0 first.1
fun_no_word (IsFun.signed {u = u} {v = v} e d) s z a b = let first = sig_first e s (v ++ z) in
    ap (peek (is_word s)) (append_assoc u v z) ∙ first.2 ∙ b first.0 first.1

-- functions, and what is made of them
funs_find : {Y : Type 0} {w : List Token} {fs : List FunDef} → IsFuns w fs → (n : ℕ) (g : List FunDef → List Token → Reading Y) (z : List Token) (v : Reading Y) → ((m : ℕ) → bind (many fun_next (funs_turn n) m fs) g z ⊑ v) → bind (fun_with n) (λ f. bind (many fun_next (funs_turn n) n (f ∷ [])) g) (w ++ z) ⊑ v
unfolding funs_turn
funs_find (IsFuns.first d) n g z v k = bind-finds _ _ _ (fun_finds d n z) (k n)
funs_find (IsFuns.next {u = u} {v = w} {fs = fs} d k) n g z v more =
    along (bind (fun_with n) (λ f. bind (many fun_next (funs_turn n) n (f ∷ [])) g)) v (sym (append_assoc u w z))
    (funs_find d n g (w ++ z) v (bind-many-goes fun_next _ g fs (w ++ z) (fun_is_next k z) (bind-finds _ _ _ (fun_finds k n z) (give-finds _ _)) more))

-- ---- declarations and programs

decl_finds : {w : List Token} {d : Decl} → IsDecl w d → (n : ℕ) (z : List Token) → decl_with n (w ++ z) ⊑ Ok (d, z)
unfolding decl_with table_with mutual_with plain_with
decl_finds (IsDecl.table k x h o c s {w = w} {columns = columns} i j m p d q e) n z = let is = word_word (codes "table") (codes "table") k i in
    along (decl_with n) _ (cons k (cons x (cons h (cons o (sym (append_assoc w (c ∷ s ∷ []) z))))))
    (when-yes _ _ _ _ is (eat-finds _ _ _ _ is (eat-finds _ _ _ _ j (eat-finds _ _ _ _ (word_word (codes "with") (codes "with") h m) (eat-finds _ _ _ _ (here (codes "(") o p refl)
    (bind-finds _ _ _ (columns_find d n (c ∷ s ∷ z) (Ok (columns, c ∷ s ∷ z)) (λ i'. many-ends comma _ i' columns (c ∷ s ∷ z) (sign_sign (codes ")") (codes ",") c q)))
    (eat-finds _ _ _ _ (here (codes ")") c q refl) (eat-finds _ _ _ _ (here (codes ";") s e refl) (give-finds _ _)))))))))
decl_finds (IsDecl.function {w = w} d) n z =
    when-no _ _ _ _ (fun_no_word d (codes "table") z (λ k h. word_word (codes "fun") (codes "table") k h) (λ k h. word_word (codes "sig") (codes "table") k h))
    (when-no _ _ _ _ (fun_no_word d (codes "mutual") z (λ k h. word_word (codes "fun") (codes "mutual") k h) (λ k h. word_word (codes "sig") (codes "mutual") k h))
    (bind-finds _ _ _ (fun_finds d n z) (give-finds _ _)))
decl_finds (IsDecl.mutual_block k o c {w = w} {fs = fs} h i d j) n z = let is = word_word (codes "mutual") (codes "mutual") k h in
    along (decl_with n) _ (cons k (cons o (sym (append_assoc w (c ∷ []) z))))
    (when-no _ _ _ _ (word_word (codes "mutual") (codes "table") k h) (when-yes _ _ _ _ is (eat-finds _ _ _ _ is (eat-finds _ _ _ _ (here (codes "{") o i refl)
    (funs_find d n _ (c ∷ z) _ (λ m. bind-finds _ _ _ (many-ends fun_next _ m fs (c ∷ z) (no_fun c j)) (eat-finds _ _ _ _ (here (codes "}") c j refl) (give-finds _ _))))))))
  where
    no_fun : (t : Token) → IsSign (codes "}") t → is_fun t ≡ false
    no_fun t e = ap (λ (b : Bool). b || is_word (codes "fun") t) (sign_word (codes "}") (codes "sig") t e) ∙ sign_word (codes "}") (codes "fun") t e

-- a declaration has a first token
decl_is_next : {w : List Token} {d : Decl} → IsDecl w d → (z : List Token) → peek (decl_next []) (w ++ z) ≡ true
decl_is_next (IsDecl.table k x h o c s i j m p d q e) z = refl
decl_is_next (IsDecl.function {w = w} d) z = some (w ++ z) (fun_is_next d z)
  where
    some : (ts : List Token) → peek is_fun ts ≡ true → peek (decl_next []) ts ≡ true
    some [] e = absurd cc
    some (t ∷ ts) e = refl
decl_is_next (IsDecl.mutual_block k o c h i d j) z = refl

decls_find : {w : List Token} {ds : List Decl} → IsDecls w ds → (n : ℕ) (z : List Token) (v : Reading (List Decl)) → ((m : ℕ) → many decl_next (decls_turn n) m ds z ⊑ v) → (m : ℕ) → many decl_next (decls_turn n) m [] (w ++ z) ⊑ v
unfolding decls_turn
decls_find IsDecls.nil n z v k m = k m
decls_find (IsDecls.more {u = u} {v = w} {ds = ds} d e) n z v more m = along (many decl_next (decls_turn n) m []) v (sym (append_assoc u w z))
    (decls_find d n (w ++ z) v (many-goes decl_next _ ds (w ++ z) (decl_is_next e z) (bind-finds _ _ _ (decl_finds e n z) (give-finds _ _)) more) m)

program_whole : {w : List Token} {p : Program} → IsProgram w p → (n : ℕ) → decls_with n (w ++ []) ⊑ Ok (p, [])
unfolding decls_with
program_whole (IsProgram.program {ds = ds} d) n = bind-finds _ _ _ (decls_find d n [] (Ok (ds, [])) (λ m. many-ends decl_next _ m ds [] refl) n) (give-finds _ _)

pub program_finds : (n : ℕ) (w : List Token) (p : Program) → IsProgram w p → program_at n w ⊑ Ok (p, [])
unfolding program_at
program_finds n w p d = bind-finds (decls_with n) (λ x. finish x) w (along (decls_with n) _ (append-nil w) (program_whole d n)) (finish_finds p)
